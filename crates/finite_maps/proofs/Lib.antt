pub mod Indexed
pub mod Maps
pub mod Ordered
pub mod TextMaps
pub mod Marking
pub mod Sifting
