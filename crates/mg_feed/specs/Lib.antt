-- What packet lines mean: whoever wants to know what is proved reads these files.
pub mod Graph
pub mod Lines
pub mod Form
pub mod Value
pub mod Accepted
pub mod Given
pub mod Apart
pub mod Output
pub mod Generated
pub mod View
pub mod Seen
pub mod FeedSeen
pub mod Stands
pub mod Pieces
pub mod GeneratorSeen
pub mod OldText
pub mod Sent
pub mod Fed
pub mod Ran
pub mod Once
pub mod Came
pub mod Batch
pub mod Handed
pub mod LinesSeen
pub mod Recorded
-- Definitions for the contracts of the crate's inner functions, and what its private types stand for.
pub mod Code
