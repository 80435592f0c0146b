pub mod Lines
pub mod Repeats
pub mod Places
pub mod Refusals
pub mod Differences
pub mod Known
pub mod Inputs
pub mod Merging
