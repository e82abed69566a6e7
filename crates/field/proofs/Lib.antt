pub mod Fielded
