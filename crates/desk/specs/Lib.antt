pub mod Acted
pub mod Refusals
