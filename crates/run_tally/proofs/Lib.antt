pub mod Walking
pub mod Weights
pub mod Calling
