-- What a recorded run says: whoever wants to know what is proved reads these files.
pub mod Event
pub mod Job
pub mod Trace
pub mod Readable
pub mod Told
-- Definitions for the contracts of the crate's inner functions. No other definition rests on them.
pub mod Code
