pub mod Bytes
pub mod ReadOperands
pub mod SkipParts
