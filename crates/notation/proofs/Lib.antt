pub mod Naming
mod Parting
mod Numbering
mod Units
