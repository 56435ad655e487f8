pub mod Grammar
pub mod Spelling
pub mod Ports
pub mod Renaming
pub mod TagIndex
pub mod Code
