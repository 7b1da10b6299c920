pub mod Rests
pub mod Foreign
pub mod Racks
pub mod Locks
pub mod Parts
pub mod Closing
