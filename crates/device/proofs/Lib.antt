pub mod Outcomes
pub mod Parts
pub mod Cards
pub mod Mirrors
pub mod Repairs
