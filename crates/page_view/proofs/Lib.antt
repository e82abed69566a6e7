pub mod Stands
pub mod Given
