pub mod Layout
pub mod Contents
pub mod Changes
pub mod Keys
pub mod Kinds
pub mod Laws
pub mod Model
