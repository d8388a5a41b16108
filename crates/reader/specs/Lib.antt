pub mod Frames
pub mod Sheets
