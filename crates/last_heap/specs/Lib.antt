pub mod Stacks
pub mod Last
