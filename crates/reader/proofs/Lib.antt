pub mod Frames
pub mod Lines
pub mod Heads
pub mod Records
pub mod Rounds
pub mod Lined
pub mod Sheets
pub mod Writing
