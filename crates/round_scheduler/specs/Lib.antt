pub mod Grounds
pub mod Scheduling
pub mod Telling
