-- Document 01, opening: the limits by name; believe
pub mod Limits
-- Document 01, checks: a value or a refusal, and which check decides; believe
pub mod Outcome
-- Documents 01 and 02, checks: the number of each cause; believe
pub mod Cause
-- Document 01, the text and the entries: parts of byte strings, digits, pieces; believe
pub mod Bytes
-- Document 01, the text: UTF-8, XML's Char, `{}`, code units; believe
pub mod Text
-- Document 01, the entries: when one is well formed, its numbers, what it says; believe
pub mod Entry
-- Document 01, clusters: the run that a label says; believe
pub mod Run
-- Document 01, checks: 1 to 15, and reading; believe
pub mod Checks
-- Document 01, picks and faults: numbers as bytes; believe
pub mod Wire
-- Document 01, picks and faults: the numbers that bytes hold; proved equal
pub mod Fetched
-- Document 01, the normal writing: the places of a run, and which a label reads as; believe
pub mod Places
-- Document 01, the normal writing: the soundness test, computed; proved equal
pub mod Sound
-- Document 01, the normal writing: text and indices of a run; believe
pub mod Write
-- Document 01, picks and faults: 19, picks; believe
pub mod Pick
-- Document 01, picks and faults: the part that a fault shows; believe
pub mod Fault
-- Document 02: what CR 1 to CR 3 add; believe
pub mod Requests
-- Document 01, checks: 16 to 18, 20, 21, the buffers after a call, the answers; believe
pub mod Calls
-- Document 01, labels to prove and to run: the program `relabel`; believe
pub mod Relabel
-- Documents 01 and 02: stretches of the checks that inner functions promise; proved equal
pub mod Steps
-- Documents 01 and 02: the promises, over the definitions; statement
pub mod Statements
-- Documents 01 and 02: labels and calls, computed from the definitions; computed
pub mod Rows
