pub mod Filling
pub mod Known
