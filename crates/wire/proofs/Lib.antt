pub mod Signed
pub mod Fetched
pub mod Runs
pub mod Walks
pub mod Stored
