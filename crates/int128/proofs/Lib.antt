pub mod Halves
pub mod Signs
pub mod Quotients
pub mod Power
