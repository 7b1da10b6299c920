pub mod Few
pub mod Numbering
pub mod Joining
pub mod Counting
pub mod Lying
pub mod Taking
pub mod Rising
pub mod Marking
