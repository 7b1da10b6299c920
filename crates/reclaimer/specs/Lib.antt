pub mod Counts
pub mod Drains
pub mod Fetches
pub mod Groups
pub mod Records
pub mod Steps
pub mod Wholes
