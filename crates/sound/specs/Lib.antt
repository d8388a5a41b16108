pub mod Rows
pub mod Walks
pub mod Parts
pub mod Sound
pub mod quick
