pub mod Turns
pub mod Verdicts
pub mod Judged
pub mod Said
pub mod Together
pub mod Files
