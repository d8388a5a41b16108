pub mod Bytes
pub mod Steps
pub mod Ors
pub mod Geometries
pub mod Whole
pub mod Lengths
