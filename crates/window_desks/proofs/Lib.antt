pub mod OneMore
pub mod Opened
pub mod Handing
mod Batching
mod Making
pub mod Serving
pub mod HelpTurn
pub mod Moving
pub mod Stationed
pub mod Counted
mod Rounds
