pub mod Edge
pub mod Adapters
pub mod InMemory
pub mod MemoryStore
pub mod Runs
pub mod Code
