pub mod Digits
pub mod Names
pub mod Ends
pub mod Storing
pub mod Answers
pub mod Opened
