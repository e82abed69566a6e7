pub mod Entries
pub mod Contents
pub mod Suited
