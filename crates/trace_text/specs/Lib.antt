pub mod Names
pub mod Fields
pub mod Entry
pub mod Shown
pub mod Below
