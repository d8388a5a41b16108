pub mod Hands
pub mod Room
pub mod Puts
pub mod Finds
pub mod Fetches
pub mod Readers
pub mod Purges
