pub mod Laid
pub mod Singles
pub mod Asking
pub mod Getters
