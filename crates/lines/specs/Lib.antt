pub mod Values
pub mod Stored
pub mod EmitLaws
pub mod Readable
pub mod Texts
