pub mod Record
pub mod Loading
pub mod Demand
