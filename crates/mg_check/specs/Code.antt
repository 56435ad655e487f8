-- What only the crate's own functions and proofs cite. Nobody who reads the public contracts needs these pages.
pub mod Sound
pub mod Taking
pub mod Choices
pub mod Groups
pub mod Judged
pub mod Edges
pub mod Meets
pub mod Numbered
pub mod Parts
pub mod Refusing
pub mod Streams
pub mod Writers
