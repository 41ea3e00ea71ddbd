pub mod WholePage
