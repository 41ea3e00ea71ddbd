pub mod Waiting
pub mod Clauses
pub mod Counts
