pub mod Apart
pub mod Decode
pub mod StoredIds
pub mod ViewBlocks
pub mod Zeros
