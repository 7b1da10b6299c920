pub mod Parts
pub mod LookNotes
pub mod WriteNotes
pub mod DrainNotes
pub mod Merging
pub mod Noting
pub mod Turning
pub mod ReadNotes
pub mod WroteTurn
pub mod StepNotes
mod Uses
mod Reclaiming
pub mod ClosedTurn
pub mod Payloads
pub mod Taking
pub mod Waking
pub mod Flagged
pub mod Gaining
pub mod HelpNotes
mod HelpTold
mod InPlace
pub mod Counting
pub mod CountLaws
pub mod MadeLaws
pub mod GroupNotes
pub mod GroupPayloads
pub mod GroupTurns
