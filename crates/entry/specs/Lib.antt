pub mod Items
pub mod Parts
pub mod Results
