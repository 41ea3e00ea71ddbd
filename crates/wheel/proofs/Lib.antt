pub mod Promise
pub mod Theorems
mod Lefts
mod Words
mod Turning
mod Visits
mod Walk
mod Hanging
mod Ticking
mod Dues
mod Laws
mod Filling
mod Same
mod Emptying
