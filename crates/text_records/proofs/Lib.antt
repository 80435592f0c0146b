pub mod Numbered
pub mod Lens
pub mod Told
