pub mod Digits
pub mod Lines
pub mod Trip
pub mod Printed
