pub mod Computed
mod Playing
mod Witnessed
