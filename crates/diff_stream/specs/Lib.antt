pub mod Faults
pub mod Compared
pub mod Steps
