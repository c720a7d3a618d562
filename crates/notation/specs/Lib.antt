pub mod Names
pub mod Words
pub mod Numbers
pub mod Lengths
