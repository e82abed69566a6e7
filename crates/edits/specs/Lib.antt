pub mod Suits
pub mod Agree
