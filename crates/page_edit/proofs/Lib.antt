pub mod Dividing
pub mod Keeping
pub mod Placing
