pub mod Takes
pub mod Due
pub mod SoFar
pub mod Code
