pub mod Unsettled
pub mod Removes
pub mod Cancels
pub mod Settings
pub mod Aborts
