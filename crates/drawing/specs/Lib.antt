pub mod Grammar
pub mod Values
pub mod Commands
pub mod Messages
