-- CR 1: how many values were rounded; believe
pub mod RoundedCount
-- CR 2: raw attribute values, resolving and escaping; believe
pub mod Attribute
-- CR 3: a sheet's labels in one call; believe
pub mod Sheet
