pub mod Chunks
pub mod Marks
pub mod Copies
pub mod Cleans
pub mod Steps
pub mod Underway
