pub mod Doors
pub mod Queues
