pub mod Index
pub mod Kept
pub mod Cells
pub mod Marked
pub mod Listing
pub mod Marks
