pub mod Held
mod Lanes
mod Places
mod Taken
