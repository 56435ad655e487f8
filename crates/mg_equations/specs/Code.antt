-- Definitions that only the functions of this crate use.
pub mod Begun
pub mod Changes
pub mod Growing
pub mod Progress
pub mod Readers
pub mod Rounds
pub mod Seen
pub mod RoundNodes
