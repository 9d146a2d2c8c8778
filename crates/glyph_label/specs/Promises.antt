-- Number and place of every answer, and a call that fills one lent buffer; statement
pub mod Memory
-- Document 01: the three demands, picks; statement
pub mod Demands
-- Document 01: showing a fault; statement
pub mod Fault
-- CR 1: how many values were rounded; statement
pub mod RoundedCount
-- CR 2: raw attribute values, resolving and escaping; statement
pub mod Attribute
-- CR 3: a sheet's labels in one call; statement
pub mod Sheet
