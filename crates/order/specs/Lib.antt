pub mod Fences
pub mod Lawful
pub mod Lent
pub mod Orders
pub mod Slots
pub mod Wide
pub mod Laws
