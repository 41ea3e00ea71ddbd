pub mod Serving
pub mod Ticking
pub mod Starting
