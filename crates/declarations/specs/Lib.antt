pub mod Says
pub mod Checked
