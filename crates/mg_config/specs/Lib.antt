pub mod Schema
pub mod Number
pub mod Values
pub mod Path
pub mod Faults
pub mod Config
pub mod Written
pub mod Sound
