pub mod Stamps
pub mod Rows
pub mod Memories
