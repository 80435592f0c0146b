pub mod BufferBytes
mod Looked
mod Sameness
mod Fronts
mod Cells
pub mod Crossing
