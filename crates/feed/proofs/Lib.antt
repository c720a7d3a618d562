pub mod Playing
pub mod Wholes
pub mod Accepting
pub mod Refusing
pub mod Showing
pub mod Delivering
