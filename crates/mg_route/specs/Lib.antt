pub mod Held
pub mod HolderView
pub mod Places
pub mod Reasons
pub mod TableLaws
-- What the prover wants of the types beside their meaning. No meaning rests on it.
pub mod HolderCodes
