pub mod Laid
pub mod Linked
pub mod PoolSteps
pub mod QueueSteps
