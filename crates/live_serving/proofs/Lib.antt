pub mod Clients
pub mod Law
pub mod Still
