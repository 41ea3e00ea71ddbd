pub mod Turning
pub mod Order
