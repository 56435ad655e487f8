pub mod Code
pub mod Free
pub mod Logs
pub mod Core
pub mod Rounds
pub mod Turns
-- What the prover wants of the types beside their meaning. No meaning rests on it.
pub mod Codes
