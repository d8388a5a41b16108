pub mod Going
pub mod Served
pub mod Told
