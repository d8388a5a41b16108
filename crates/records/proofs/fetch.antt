pub mod Laws
pub mod Search
pub mod Parts
pub mod Finds
