pub mod Sheet
pub mod Places
pub mod Effects
pub mod Table
pub mod Smallest
pub mod Different
pub mod Kept
pub mod Behind
