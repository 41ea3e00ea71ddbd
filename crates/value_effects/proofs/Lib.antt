pub mod Broadcasting
pub mod Searching
