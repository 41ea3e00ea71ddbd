pub mod Bools
pub mod Lists
pub mod Bits
pub mod Filling
pub mod Making
pub mod Same
pub mod Copying
