pub mod Orders
pub mod Printed
pub mod Views
pub mod Drains
pub mod Images
pub mod Runs
