pub mod Lanes
pub mod Trims
