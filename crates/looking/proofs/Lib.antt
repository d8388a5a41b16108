pub mod Oldest
pub mod Looked
pub mod Fits
pub mod Files
pub mod Readers
pub mod Parts
pub mod Short
