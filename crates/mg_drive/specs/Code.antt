-- Definitions that only the code's own functions use.
pub mod Running
pub mod Lines
pub mod Ending
pub mod InPieces
pub mod Tracing
pub mod Nothing
pub mod Live
pub mod Readers
pub mod LiveRunning
