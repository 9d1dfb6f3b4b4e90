pub mod Programs
pub mod Runs
pub mod Judging
