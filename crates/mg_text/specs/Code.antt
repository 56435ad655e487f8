-- What only the crate's own functions and proofs cite. Nobody who reads the public contracts needs these pages.
pub mod Clean
pub mod Machine
pub mod Printing
pub mod Running
pub mod Plain
