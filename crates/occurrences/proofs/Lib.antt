pub mod Counts
pub mod Pigeons
