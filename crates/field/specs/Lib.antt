pub mod Fields
pub mod Held
