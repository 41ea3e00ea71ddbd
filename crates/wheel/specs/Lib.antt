pub mod Hung
pub mod Inside
pub mod Promise
pub mod Acts
