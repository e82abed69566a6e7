pub mod Rows
pub mod Tree
pub mod Log
pub mod Walk
pub mod Halves
pub mod Suits
pub mod Plan
pub mod Worlds
