pub mod Promise
pub mod Refusal
pub mod Parts
