pub mod Memories
pub mod Image
pub mod Stands
pub mod Covers
pub mod Fresh
pub mod Fine
pub mod Swept
