pub mod Serving
pub mod Answers
pub mod Verdicts
pub mod Calls
pub mod Timers
pub mod Dues
pub mod Tick
pub mod Steps
