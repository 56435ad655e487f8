pub mod Loopback
pub mod Standing
pub mod Codes
