pub mod Values
pub mod Sink
pub mod View
pub mod Given
pub mod Props
