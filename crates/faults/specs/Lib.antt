pub mod Faults
pub mod Heard
pub mod Decimals
pub mod Remarks
