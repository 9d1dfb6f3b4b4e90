pub mod Simple
pub mod Measured
pub mod Counted
pub mod Arity
pub mod Called
