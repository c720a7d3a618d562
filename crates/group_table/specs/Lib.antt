pub mod Floats
pub mod Bits
pub mod Entries
pub mod Links
pub mod Finding
pub mod Invariant
pub mod Table
