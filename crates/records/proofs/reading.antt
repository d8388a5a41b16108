pub mod Framed
pub mod Stores
