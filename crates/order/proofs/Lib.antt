mod Numbers
pub mod Steps
