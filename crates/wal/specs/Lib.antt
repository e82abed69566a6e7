pub mod Journal
pub mod Records
pub mod Appends
pub mod Slots
pub mod Laws
