pub mod Fronts
pub mod ReadLines
pub mod Cuts
pub mod Joins
pub mod Accounts
pub mod GoOn
