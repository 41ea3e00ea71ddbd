pub mod Storing
pub mod Stores
