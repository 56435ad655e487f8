-- What only the crate's own functions and proofs cite. Nobody who reads the public contracts needs these pages.
pub mod WorkQueues
pub mod Tables
pub mod Made
pub mod Longer
pub mod LongerAt
pub mod Outputs
pub mod Agendas
pub mod AtLimits
pub mod Left
pub mod Quiet
pub mod Telling
pub mod AtOnce
