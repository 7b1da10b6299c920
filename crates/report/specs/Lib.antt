pub mod Words
pub mod Names
pub mod Summaries
pub mod Troubles
pub mod Faults
