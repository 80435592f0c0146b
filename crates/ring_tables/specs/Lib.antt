pub mod Contents
pub mod Fronts
pub mod Cells
