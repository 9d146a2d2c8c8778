-- What the programs print of a label
pub mod Lines
-- That a call prints certain bytes; believe
pub mod Prints
