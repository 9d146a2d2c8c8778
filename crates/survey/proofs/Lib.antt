pub mod Walking
pub mod Placing
pub mod Endings
pub mod Surveying
