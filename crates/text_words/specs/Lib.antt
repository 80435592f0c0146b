pub mod Read
pub mod Words
pub mod Numbers
pub mod Paths
pub mod Strings
