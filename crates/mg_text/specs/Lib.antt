pub mod Answer
pub mod Byte
pub mod Canonical
pub mod Code
pub mod Grammar
pub mod Tree
pub mod View
