pub mod Turns
pub mod Lines
pub mod Racks
pub mod Runs
