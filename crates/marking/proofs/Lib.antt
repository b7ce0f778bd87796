mod Darkening
mod Shading
mod Holding
mod Reading
mod Marking
mod Listing
