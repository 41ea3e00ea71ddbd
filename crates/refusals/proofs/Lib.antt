pub mod Delays
pub mod Owning
