pub mod Throttle
pub mod Code
