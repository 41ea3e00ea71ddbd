pub mod Standing
pub mod Found
pub mod Tests
pub mod Said
