pub mod Constants
pub mod Units
pub mod Products
pub mod Examples
