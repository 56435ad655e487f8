-- What only the crate's own functions and proofs cite. Nobody who reads the public contracts needs these pages.
pub mod Stored
pub mod Plays
pub mod Running
pub mod Cells
pub mod Counts
pub mod Ways
