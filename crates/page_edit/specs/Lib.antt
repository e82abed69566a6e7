pub mod Edits
pub mod Parts
