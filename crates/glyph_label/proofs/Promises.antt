pub mod Memory
pub mod Demands
pub mod Fault
pub mod RoundedCount
pub mod Attribute
pub mod Sheet
