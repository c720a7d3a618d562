mod Zeros
pub mod Hexing
pub mod Flags
