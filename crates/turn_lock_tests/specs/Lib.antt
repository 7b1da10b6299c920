pub mod Desks
pub mod Made
