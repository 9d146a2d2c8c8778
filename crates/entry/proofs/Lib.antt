pub mod FieldBridge
pub mod FrontBridge
pub mod EntryBridge
pub mod EntryLaws
pub mod Results
