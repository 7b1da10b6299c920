pub mod Opened
pub mod Steps
mod Synced
