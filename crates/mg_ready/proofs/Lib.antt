pub mod BitSets
pub mod Chains
pub mod Kept
pub mod Marks
pub mod Slots
