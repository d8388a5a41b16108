pub mod Sides
pub mod Outstanding
pub mod Shown
pub mod Accessors
