pub mod DigitLaws
pub mod ValueLaws
pub mod NumberLaws
pub mod Scan
pub mod NumberBridge
