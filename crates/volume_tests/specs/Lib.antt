pub mod Counting
pub mod Locked
pub mod Rigs
