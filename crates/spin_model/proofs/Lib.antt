pub mod Alternating
pub mod Owning
pub mod Steps
pub mod Summing
pub mod Tokens
pub mod Turning
pub mod Using
