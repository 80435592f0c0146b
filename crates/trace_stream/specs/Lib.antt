pub mod Held
pub mod Streams
