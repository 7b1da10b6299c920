pub mod Numbers
pub mod Lines
pub mod Hosts
pub mod Intake
pub mod Reading
pub mod Payload
pub mod Spelling
