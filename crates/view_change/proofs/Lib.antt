pub mod Ids
pub mod LabelPart
pub mod Steps
pub mod Turns
