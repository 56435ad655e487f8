pub mod Counted
pub mod Turned
