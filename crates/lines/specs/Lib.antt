-- What the contracts of the label of two lines cite; believe
pub mod Lines
-- The labels of an input; believe
pub mod Labels
-- That the lines found are those of document 01; statement
pub mod Standing
