pub mod Whole
pub mod Counts
pub mod Eval
pub mod Modifiers
