-- What only the crate's own functions and proofs cite. Nobody who reads the public contracts needs these pages.
pub mod Standing
