pub mod View
pub mod Values
pub mod Fields
