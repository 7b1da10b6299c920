pub mod Totals
pub mod Uses
