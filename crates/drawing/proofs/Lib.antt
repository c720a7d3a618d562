mod Rows
mod Marked
mod Optional
