pub mod Feeding
pub mod Whole
pub mod Accepting
pub mod Shown
