pub mod Says
pub mod Passing
pub mod Widths
pub mod Measured
pub mod Props
