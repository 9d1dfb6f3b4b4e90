pub mod Sayings
pub mod Declares
pub mod Targets
pub mod Classical
pub mod Functions
