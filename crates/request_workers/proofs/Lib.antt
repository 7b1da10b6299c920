pub mod Working
pub mod Roomy
pub mod Totals
mod Parts
mod Crewing
pub mod Runs
