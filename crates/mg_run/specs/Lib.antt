-- What the program means: whoever wants to know what is proved reads these files.
pub mod Invocation
pub mod Answer
pub mod Devices
pub mod Boxes
pub mod Call
pub mod Headline
-- Definitions that only the code's own functions use. None of those above rests on them.
pub mod Code
