pub mod Naming
pub mod Rounds
pub mod Summary
