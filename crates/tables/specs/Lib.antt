pub mod Entries
pub mod Tables
pub mod Laws
pub mod Params
