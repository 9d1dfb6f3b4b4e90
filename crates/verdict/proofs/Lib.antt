pub mod Heads
pub mod Judging
mod Staging
