pub mod Keys
pub mod Images
pub mod Records
pub mod Laws
pub mod Checks
