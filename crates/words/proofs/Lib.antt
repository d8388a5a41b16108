pub mod Ors
pub mod Runs
pub mod Stands
pub mod Zeros
pub mod Parts
pub mod Joins
pub mod Led
