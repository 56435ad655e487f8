-- The files of a command: what their contents are, and what their loads did. Also the notes of what is refused, and the
-- texts that `check` and `expand` write.
pub mod File
pub mod Notes
pub mod CheckNotes
pub mod Files
pub mod Loads
pub mod Reads
