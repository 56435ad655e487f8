-- What only the crate's own functions and proofs cite. Nobody who reads the public contracts needs these pages.
pub mod Bringing
pub mod Replying
pub mod QueueLaying
pub mod FrontLaying
pub mod Showing
