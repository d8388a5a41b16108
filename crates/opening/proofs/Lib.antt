pub mod Builds
pub mod Turns
pub mod Finds
pub mod Purges
pub mod Enters
pub mod Judged
