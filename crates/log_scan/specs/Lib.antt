pub mod Scan
pub mod Adopted
pub mod Reading
