pub mod Histories
pub mod LockIds
pub mod Passes
pub mod Rule
pub mod Steps
pub mod Views
