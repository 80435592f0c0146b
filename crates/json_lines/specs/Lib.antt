pub mod Fields
pub mod Lines
pub mod Forms
pub mod Writing
