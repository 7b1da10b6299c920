pub mod Configs
pub mod Documents
pub mod Keys
pub mod Tables
