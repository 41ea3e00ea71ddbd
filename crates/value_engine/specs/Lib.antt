pub mod Engines
pub mod Stands
