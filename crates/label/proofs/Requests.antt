pub mod RoundedCount
pub mod Attribute
pub mod Escaping
pub mod Sheet
