pub mod Ranked
mod Strings
pub mod Tally
