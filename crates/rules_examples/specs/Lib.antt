pub mod Marked
pub mod Further
