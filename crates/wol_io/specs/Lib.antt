pub mod Plan
pub mod Memory
pub mod Streams
