pub mod Code
pub mod Ends
pub mod Extension
pub mod FirstSet
pub mod Left
pub mod Loopback
pub mod Prefix
pub mod Settled
-- What the prover wants of the types beside their meaning. No meaning rests on it.
pub mod Codes
