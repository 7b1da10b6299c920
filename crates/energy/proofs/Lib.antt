pub mod Summed
pub mod Turns
