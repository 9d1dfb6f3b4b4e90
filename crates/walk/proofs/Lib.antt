pub mod Plain
pub mod Steps
pub mod Loop
pub mod Enclosed
pub mod Further
pub mod Held
pub mod Cases
pub mod Branches
