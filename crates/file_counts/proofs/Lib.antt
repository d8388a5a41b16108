pub mod Counting
pub mod Counted
