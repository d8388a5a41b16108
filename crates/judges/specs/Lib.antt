pub mod Sharing
pub mod Verdicts
pub mod Refused
