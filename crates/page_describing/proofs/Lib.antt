pub mod Ahead
pub mod Numbers
pub mod Means
