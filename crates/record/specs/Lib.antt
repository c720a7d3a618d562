pub mod Records
pub mod Good
pub mod Zero
