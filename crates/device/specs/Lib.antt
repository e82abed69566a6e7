pub mod Disk
pub mod Writes
pub mod Laws
pub mod Card
pub mod Mirror
pub mod Repair
