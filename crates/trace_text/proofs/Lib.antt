pub mod Adds
pub mod Places
pub mod Digits
pub mod Slices
pub mod Turns
pub mod Runs
pub mod Lanes
