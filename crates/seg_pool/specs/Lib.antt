pub mod Holders
pub mod Laws
pub mod Operations
pub mod Pools
