pub mod Images
pub mod Moments
pub mod Recorded
pub mod Calls
pub mod Replay
pub mod Chosen
pub mod Planned
pub mod Building
