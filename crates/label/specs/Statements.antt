-- Document 01, checks: what every call promises of lent memory; statement
pub mod Memory
-- Document 01: the three demands; statement
pub mod Demands
-- Documents 01 and 02: the calls by their stretches; statement
pub mod Steps
-- Document 01, picks and faults: the list of glyph records; statement
pub mod Records
-- Document 01, labels to prove and to run: what `relabel` prints; statement
pub mod Relabel
-- CR 1: how many values were rounded; statement
pub mod RoundedCount
-- CR 2: raw attribute values, resolving and escaping; statement
pub mod Attribute
-- CR 3: a sheet's labels in one call; statement
pub mod Sheet
-- CR 4: pairs in the unwritten tail; statement
pub mod Tail
-- CR 5: UTF-8 by the rows of the table; statement
pub mod Encoding
-- CR 6: halves go to the even neighbour; statement
pub mod Rounding
