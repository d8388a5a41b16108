pub mod Keeps
pub mod Parts
pub mod Steps
pub mod Turns
pub mod Whole
pub mod Told
