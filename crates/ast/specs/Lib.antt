pub mod Tree
pub mod Build
