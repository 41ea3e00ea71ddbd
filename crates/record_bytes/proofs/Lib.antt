pub mod Examples
pub mod Tables
pub mod Reading
pub mod Writing
pub mod Loading
pub mod Bytes
pub mod Demand
pub mod Earlier
