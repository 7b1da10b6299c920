pub mod Masks
pub mod Runs
pub mod Cells
