mod Bits
mod Counts
mod Lowest
