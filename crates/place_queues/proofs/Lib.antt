pub mod Choices
pub mod Joins
pub mod Waits
