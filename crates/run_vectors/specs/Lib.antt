pub mod Boxes
pub mod Made
