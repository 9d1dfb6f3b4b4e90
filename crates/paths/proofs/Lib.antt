-- Laws that belong to no one function.
pub mod Ranges
pub mod Reach
pub mod Standing
pub mod Part
pub mod Silent
pub mod Lists
pub mod Uses
pub mod Agrees
pub mod SilentStmts
pub mod Walk
pub mod Demand3
pub mod Examples
pub mod Bytes
