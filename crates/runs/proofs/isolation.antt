pub mod Cases
pub mod Asks
pub mod Found
