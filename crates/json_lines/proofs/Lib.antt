mod Slices
mod Feed
pub mod Whole
pub mod Unwritten
