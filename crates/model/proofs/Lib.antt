pub mod Puts
pub mod Totals
pub mod Firsts
pub mod Colours
pub mod Questions
pub mod Same
pub mod Counts
