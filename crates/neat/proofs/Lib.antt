pub mod Images
pub mod Tidy
pub mod Written
pub mod Recorded
