pub mod Copies
pub mod Numbered
pub mod Looks
pub mod Checked
pub mod Joined
