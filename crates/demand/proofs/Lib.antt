pub mod Demand
pub mod Inner
pub mod Follows
