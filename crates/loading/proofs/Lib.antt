pub mod Packs
pub mod Packed
pub mod Judged
pub mod Done
