pub mod Leaves
pub mod Code
