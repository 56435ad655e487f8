pub mod OneFile
pub mod Together
pub mod Loading
pub mod Texts
