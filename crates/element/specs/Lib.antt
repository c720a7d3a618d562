pub mod Words
pub mod Forms
pub mod Attributes
pub mod Roles
