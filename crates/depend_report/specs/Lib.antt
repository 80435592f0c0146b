pub mod Depends
pub mod Paths
pub mod Told
pub mod Whole
