pub mod Telling
pub mod Worked
pub mod Witness
