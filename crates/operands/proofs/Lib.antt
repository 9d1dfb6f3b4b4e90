pub mod Checks
pub mod WidthLaws
pub mod UseLaws
pub mod PassLaws
pub mod VecLaws
