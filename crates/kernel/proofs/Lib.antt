pub mod Tests
pub mod Deciding
pub mod Sound
pub mod Promised
