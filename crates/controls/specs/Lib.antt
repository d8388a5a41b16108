pub mod Changed
pub mod Removed
pub mod Acts
