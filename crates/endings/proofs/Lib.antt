pub mod Rows
pub mod Sturdy
pub mod Records
pub mod Passing
pub mod Meanings
pub mod Ended
