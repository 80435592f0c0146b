pub mod FoundLines
pub mod Moving
pub mod FirstLines
pub mod Standing
pub mod Ending
