pub mod DecimalLaws
pub mod WriteLaws
pub mod Lengths
