pub mod Digits
pub mod Putting
pub mod Examples
pub mod Collecting
