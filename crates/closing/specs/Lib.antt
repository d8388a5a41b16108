pub mod Walk
pub mod Leaving
