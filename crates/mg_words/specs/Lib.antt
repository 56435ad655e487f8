-- What the words of a command line ask for.
pub mod CommandLine
pub mod Command
pub mod Help
pub mod Words
pub mod Request
