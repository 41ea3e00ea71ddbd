pub mod Examples
pub mod Order
