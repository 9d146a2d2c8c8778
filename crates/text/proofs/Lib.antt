pub mod Walk
pub mod Counts
pub mod Units
pub mod Moves
pub mod Fills
pub mod Tails
pub mod Texts
