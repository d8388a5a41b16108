pub mod Slots
pub mod Lists
pub mod Index
