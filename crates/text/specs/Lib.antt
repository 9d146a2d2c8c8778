pub mod Moves
pub mod Texts
pub mod Units
pub mod Walk
