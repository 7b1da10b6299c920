pub mod Found
pub mod Keeping
pub mod Seen
pub mod Answering
pub mod Versions
pub mod Changing
pub mod Adding
pub mod Search
pub mod Celled
pub mod Without
pub mod Newest
pub mod Tabling
pub mod Dues
mod Alone
mod Lanes
pub mod Marked
pub mod Listing
pub mod Bits
pub mod Summed
pub mod Masks
