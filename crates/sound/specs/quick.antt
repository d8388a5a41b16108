pub mod Ones
pub mod Onward
pub mod Ends
pub mod Strides
