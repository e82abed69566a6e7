pub mod Neat
