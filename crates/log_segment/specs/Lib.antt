pub mod Records
pub mod Kept
pub mod Group
pub mod Segment
