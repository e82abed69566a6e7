pub mod Entered
pub mod Fresh
pub mod Spliced
pub mod Told
pub mod Written
