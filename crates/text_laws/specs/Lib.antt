pub mod Words
pub mod Entry
pub mod Shown
