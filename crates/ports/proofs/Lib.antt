pub mod Index
pub mod Maps
pub mod Steps
pub mod Chains
pub mod Lists
pub mod Boxes
pub mod Contents
pub mod Moves
