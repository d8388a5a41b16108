pub mod Writing
pub mod Check
pub mod Memory
