-- Definitions that only the code's own functions use.
pub mod Action
pub mod Begun
