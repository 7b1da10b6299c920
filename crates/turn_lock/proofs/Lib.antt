pub mod OwnEntries
pub mod PassSteps
pub mod Totals
pub mod TurnSteps
pub mod WholeHistory
