pub mod Text
pub mod Time
