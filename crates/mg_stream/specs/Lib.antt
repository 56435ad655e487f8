pub mod Code
pub mod Codes
pub mod Pool
pub mod PoolCodes
pub mod PoolView
pub mod Queue
pub mod QueueView
