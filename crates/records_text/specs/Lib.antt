pub mod Below
pub mod Shown
