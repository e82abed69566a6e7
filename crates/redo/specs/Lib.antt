pub mod Redone
pub mod Slots
