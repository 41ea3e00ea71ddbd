pub mod Laying
pub mod Feeding
pub mod Once
pub mod Existing
pub mod Joining
pub mod Pieces
pub mod Shown
