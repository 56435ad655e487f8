pub mod ClonerLemmas
pub mod LayingLemmas
mod Passing
pub mod PlaceLemmas
pub mod Sent
mod TakenKinds
pub mod TableLaws
