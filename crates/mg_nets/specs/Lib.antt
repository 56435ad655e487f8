pub mod Driven
pub mod Handed
