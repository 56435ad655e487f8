pub mod Keeping
pub mod Making
pub mod Cells
pub mod Edges
pub mod Scripting
pub mod Sent
