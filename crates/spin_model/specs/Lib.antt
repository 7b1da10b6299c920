pub mod Laws
pub mod Operations
pub mod Spindles
pub mod Spun
pub mod Turns
