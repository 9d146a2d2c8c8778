pub mod Puts
pub mod Finds
pub mod Outputs
