pub mod Names
pub mod Rule
pub mod Spots
pub mod Groups
pub mod Told
