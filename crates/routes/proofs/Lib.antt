pub mod Told
pub mod Comes
pub mod Kept
pub mod Fetched
pub mod Ways
pub mod Next
