pub mod Faults
pub mod Lists
pub mod Names
pub mod Ranges
pub mod Refusals
pub mod SetViews
pub mod Valid
pub mod Walks
