pub mod Entries
pub mod History
pub mod Chain
pub mod Clips
pub mod Telling
pub mod Direct
mod Singles
pub mod Writers
