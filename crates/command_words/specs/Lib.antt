pub mod Application
pub mod Commands
pub mod Laws
pub mod Table
pub mod Values
