pub mod Gates
pub mod Loops
