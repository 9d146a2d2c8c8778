pub mod Cuts
pub mod Places
pub mod Printing
pub mod Relabels
pub mod Standing
