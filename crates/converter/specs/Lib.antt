pub mod State
pub mod Drawn
pub mod Rectangle
pub mod Clip
pub mod Groups
pub mod Rules
pub mod Laws
pub mod Worked
