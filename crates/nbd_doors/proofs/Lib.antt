pub mod Clients
pub mod Along
