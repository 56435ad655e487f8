pub mod Code
pub mod Logged
pub mod Loop
pub mod Loops
