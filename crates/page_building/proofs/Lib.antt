pub mod Turns
pub mod Lines
pub mod Stages
pub mod Arrivals
pub mod Blank
pub mod Timers
pub mod Means
pub mod Parts
