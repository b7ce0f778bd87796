pub mod Reached
pub mod Darkened
pub mod Shaded
pub mod Marked
