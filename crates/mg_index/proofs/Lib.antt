pub mod Placing
pub mod Tabled
