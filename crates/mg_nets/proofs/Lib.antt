pub mod Driving
pub mod Handing
