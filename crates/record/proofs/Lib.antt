pub mod Parts
pub mod Images
pub mod Sealed
pub mod Decodes
pub mod Held
