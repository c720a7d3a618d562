pub mod Agreement
pub mod Room
pub mod Size
pub mod State
pub mod Steps
pub mod Runs
