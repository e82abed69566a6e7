pub mod Content
pub mod Image
pub mod Form
pub mod Walk
pub mod Laws
