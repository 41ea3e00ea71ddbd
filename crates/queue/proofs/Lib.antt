pub mod Cases
pub mod Searches
pub mod Linking
pub mod Laws
pub mod Sets
pub mod Words
pub mod Canon
pub mod Removing
