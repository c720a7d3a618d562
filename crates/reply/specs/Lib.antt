pub mod Bits
pub mod Edits
pub mod Plain
pub mod People
pub mod Replies
