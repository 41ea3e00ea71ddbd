pub mod Timing
pub mod Clauses
