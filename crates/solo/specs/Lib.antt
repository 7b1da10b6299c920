pub mod Volume
pub mod Requests
pub mod Texts
pub mod Served
pub mod Runs
pub mod Faults
pub mod Images
pub mod Summed
