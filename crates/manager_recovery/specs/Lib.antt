pub mod Owned
pub mod Opening
pub mod Refused
pub mod Left
pub mod Opened
pub mod Scanned
pub mod Recovery
