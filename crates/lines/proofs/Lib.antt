pub mod Decimals
pub mod Sink
pub mod Lines
