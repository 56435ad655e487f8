-- Definitions for the contracts of the crate's inner functions, and what its private types stand for.
pub mod Places
pub mod Forms
pub mod Streams
pub mod Heard
pub mod Due
pub mod LineHead
pub mod Graphs
pub mod LineEnd
pub mod Readers
pub mod Filled
pub mod Moves
pub mod PacketLines
pub mod Handing
pub mod MadeSoFar
