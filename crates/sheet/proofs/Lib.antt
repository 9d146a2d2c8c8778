pub mod Splits
pub mod Walk
pub mod Told
pub mod Storing
pub mod Answers
