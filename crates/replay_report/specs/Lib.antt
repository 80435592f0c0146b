pub mod Heads
pub mod Names
pub mod TreeSum
pub mod RingTexts
pub mod Report
pub mod InOrder
pub mod Sums
