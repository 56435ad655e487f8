pub mod Answered
pub mod Claims
pub mod Drops
mod Horizons
pub mod PoolRests
pub mod Readinesses
pub mod Standing
