pub mod Ticks
pub mod Moments
pub mod Posts
pub mod Together
