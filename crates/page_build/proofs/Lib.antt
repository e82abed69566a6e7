pub mod Built
pub mod Entering
pub mod Filling
pub mod Headed
pub mod Shortly
pub mod Splicing
