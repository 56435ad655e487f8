pub mod Leaving
pub mod Standing
pub mod Steps
pub mod Streams
pub mod Turns
