pub mod Counts
pub mod Sums
pub mod Keeps
pub mod Gathers
pub mod Moves
pub mod Progress
pub mod LawProofs
