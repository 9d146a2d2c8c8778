-- The answers for C, field by field; believe
pub mod Answers
-- The contracts of the calls that fill buffers; believe
pub mod CallContracts
-- Bounds that inner functions ask for; no call cites them
pub mod Fits
-- What the calls for C promise: the demands, and each request; statement
pub mod Promises
