pub mod Declaring
pub mod Filling
