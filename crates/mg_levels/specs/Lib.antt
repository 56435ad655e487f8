pub mod Balance
pub mod Hands
pub mod Places
pub mod Levels
pub mod Code
