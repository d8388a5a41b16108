pub mod Copied
pub mod Fresh
