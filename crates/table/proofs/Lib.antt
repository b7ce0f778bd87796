pub mod Held
mod Cells
mod Nodes
