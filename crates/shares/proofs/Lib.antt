pub mod Image
pub mod Added
pub mod Good
pub mod Groups
pub mod Ring
pub mod Says
pub mod Put
pub mod Taken
pub mod Holds
pub mod PutAll
pub mod Back
pub mod Used
pub mod Blocks
pub mod Places
pub mod Laid
pub mod Sound
pub mod Tails
mod Examples
