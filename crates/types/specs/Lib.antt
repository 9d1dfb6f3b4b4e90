pub mod Types
pub mod Names
