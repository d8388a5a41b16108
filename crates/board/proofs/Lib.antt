pub mod Timers
pub mod Found
pub mod Places
pub mod Files
pub mod Swept
pub mod Turns
pub mod Boards
