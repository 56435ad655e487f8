pub mod Code
pub mod Kind
pub mod Packet
pub mod Payload
pub mod Plain
-- What the prover wants of the types beside their meaning. No meaning rests on it.
pub mod Codes
pub mod PayloadFalls
