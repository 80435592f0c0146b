pub mod Places
pub mod Running
pub mod Shared
pub mod Waits
