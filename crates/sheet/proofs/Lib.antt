pub mod Tests
pub mod Loops
pub mod Looking
pub mod Pairs
pub mod Sheets
pub mod Answers
pub mod Adding
pub mod Measured
