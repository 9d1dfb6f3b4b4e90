pub mod Cases
pub mod File
