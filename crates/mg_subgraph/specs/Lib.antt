pub mod Names
pub mod Library
pub mod Expanded
pub mod Refusals
pub mod Expansion
pub mod Apart
pub mod Code
