pub mod Crc
pub mod Seal
pub mod Tables
pub mod Laws
