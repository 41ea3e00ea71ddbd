pub mod Meaning
pub mod Walking
pub mod Many
pub mod Inner
