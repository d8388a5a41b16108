pub mod Walks
pub mod Passes
pub mod Ends
pub mod Parts
pub mod Clears
