pub mod Walks
pub mod Sounds
pub mod Facts
