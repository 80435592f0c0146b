pub mod Pieces
pub mod Slots
pub mod Start
pub mod Entry
pub mod Sets
pub mod Records
pub mod Whole
