pub mod Emitted
pub mod Typings
pub mod Walks
pub mod WalkLaws
pub mod Went
pub mod WentLaws
