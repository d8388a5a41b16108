pub mod Trip
pub mod Carried
