pub mod Woven
pub mod Shared
pub mod Became
pub mod Code
