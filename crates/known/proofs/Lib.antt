mod Filled
mod Freed
