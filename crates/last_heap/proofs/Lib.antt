mod Ranges
mod Replaced
mod Stacked
mod Making
