pub mod Placed
pub mod Walk
pub mod Blocks
pub mod Adopting
pub mod ReadAhead
