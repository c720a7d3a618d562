pub mod Constants
pub mod Laws
pub mod Goodness
pub mod Examples
