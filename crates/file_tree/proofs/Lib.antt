pub mod Listing
pub mod Ranges
pub mod Removals
pub mod Sameness
pub mod Short
pub mod Split
pub mod Walks
pub mod Crossing
