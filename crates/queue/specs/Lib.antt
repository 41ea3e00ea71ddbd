pub mod Words
pub mod Linking
pub mod Stands
