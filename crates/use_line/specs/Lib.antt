pub mod History
pub mod Spans
pub mod Steps
pub mod Known
pub mod Queue
