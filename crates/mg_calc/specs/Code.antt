pub mod Entries
pub mod StateView
