pub mod Checks
pub mod Vecs
