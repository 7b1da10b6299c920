pub mod Laid
pub mod Grouped
pub mod Headed
pub mod Told
pub mod Progress
