pub mod Drawing
mod Examples
pub mod Fair
pub mod Found
pub mod Growing
pub mod Kept
pub mod ReadAgain
pub mod Standing
pub mod Times
pub mod Written
