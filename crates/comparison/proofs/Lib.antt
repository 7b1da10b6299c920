pub mod Order
pub mod Behind
pub mod Taking
pub mod Lines
pub mod Telling
pub mod Further
