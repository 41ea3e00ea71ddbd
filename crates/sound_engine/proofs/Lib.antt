pub mod Rebuilding
pub mod Once
