pub mod Asked
pub mod Side
pub mod Compares
