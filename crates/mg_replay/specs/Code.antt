-- Definitions for the contracts of the crate's inner functions.
pub mod Packets
pub mod Reading
pub mod Nets
