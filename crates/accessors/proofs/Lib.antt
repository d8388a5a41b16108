pub mod Turns
pub mod Counted
pub mod Waits
pub mod Rows
pub mod Names
