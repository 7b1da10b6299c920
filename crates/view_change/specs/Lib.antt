pub mod Changes
pub mod Drained
