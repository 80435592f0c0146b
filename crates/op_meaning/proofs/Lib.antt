pub mod Moved
pub mod Fallible
pub mod Asked
pub mod OpLaws
pub mod Answering
pub mod Turns
mod SpanWrites
pub mod LinesStay
pub mod Crossing
pub mod Kept
