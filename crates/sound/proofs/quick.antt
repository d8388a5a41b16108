pub mod Entry
pub mod Onward
pub mod Settings
pub mod Nils
pub mod Ample
pub mod Ends
pub mod Enough
pub mod Strides
