pub mod Flow
pub mod Steps
pub mod Places
pub mod Errors
pub mod Lines
