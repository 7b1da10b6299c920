pub mod Bits
pub mod Marks
pub mod Meeting
pub mod Counting
pub mod Stepping
