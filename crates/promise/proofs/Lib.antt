pub mod Stands
pub mod Asked
pub mod Calls
pub mod Doors
pub mod Kept
pub mod Gets
pub mod Nexts
pub mod Promised
