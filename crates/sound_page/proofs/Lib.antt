pub mod Clauses
pub mod Whole
