pub mod Decoded
pub mod Lent
pub mod Places
pub mod Entries
