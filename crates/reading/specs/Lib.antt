pub mod Answers
pub mod Section
pub mod Spans
pub mod Sources
