pub mod Rows
pub mod Chars
