-- What only the crate's own functions and proofs cite. Nobody who reads the public contracts needs these pages.
pub mod Index
pub mod Places
pub mod Views
pub mod Sizes
pub mod Judged
pub mod Bindings
