pub mod Says
pub mod Ranges
