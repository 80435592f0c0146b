pub mod Exits
pub mod Loops
pub mod Named
pub mod Parts
pub mod Repeats
pub mod Values
