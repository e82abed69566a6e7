pub mod Strings
pub mod Orders
pub mod Recorded
pub mod Formed
pub mod Ordered
pub mod Sealed
pub mod Stored
pub mod Checked
