pub mod Loading
pub mod Saving
