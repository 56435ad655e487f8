pub mod Threshold
