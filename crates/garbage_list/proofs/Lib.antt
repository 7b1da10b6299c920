pub mod Going
pub mod Finding
pub mod Lanes
pub mod Nexts
