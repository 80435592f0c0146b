pub mod Grows
pub mod Goes
pub mod Going
pub mod Tallied
pub mod Ranges
