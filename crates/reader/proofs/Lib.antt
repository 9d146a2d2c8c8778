pub mod Storing
pub mod Tails
pub mod Filling
pub mod Calls
