pub mod WholeLines
pub mod LastLines
pub mod WholeReport
pub mod WithinLines
pub mod Turns
