-- What a recorded run does when it is made again. Whoever wants to know what is proved reads these files.
pub mod Opening
pub mod Replay
pub mod Reading
pub mod Note
pub mod Leaves
pub mod Replayed
-- Definitions for the contracts of the crate's inner functions. No other definition rests on them.
pub mod Code
