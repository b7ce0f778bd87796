mod Lanes
mod Picked
