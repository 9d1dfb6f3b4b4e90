pub mod Listing
pub mod Cut
pub mod CutLines
pub mod Apart
