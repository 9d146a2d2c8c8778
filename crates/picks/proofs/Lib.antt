pub mod Touches
pub mod Picks
