-- Documents 01 and 02: what a row holds, and short names; computed
pub mod Types
-- CR 4: pairs in the unwritten tail; computed
pub mod Tail
-- CR 6: halves; computed
pub mod Rounding
-- Document 01, labels to prove and to run: labels 1 to 11 and the standard's examples; computed
pub mod Document
-- Document 01: edges of the calls; computed
pub mod Calls
-- CR 1: counts of rounded fields; computed
pub mod RoundedCount
-- CR 2: raw values, escaped bytes and escaped writings; computed
pub mod Attribute
-- CR 3: sheets; computed
pub mod Sheet
-- CR 5: the edges of UTF-8; computed
pub mod Encoding
