pub mod File
pub mod FileStands
pub mod Seg
pub mod Mid
pub mod Outcome
pub mod Accepted
