pub mod Once
pub mod Apart
