mod Exits
pub mod Loops
pub mod KnownNames
pub mod Numbered
pub mod Stays
pub mod Whole
pub mod OneSpelling
pub mod Ends
pub mod Taken
pub mod Going
pub mod Counted
pub mod Zeros
pub mod Added
pub mod Words
