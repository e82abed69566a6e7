pub mod Steps
pub mod Runs
pub mod Seals
pub mod Spread
