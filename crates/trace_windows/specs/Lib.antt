pub mod Requests
pub mod Batches
pub mod Cutting
pub mod Laws
