pub mod Steps
pub mod Frames
pub mod Powers
pub mod Once
pub mod Examples
