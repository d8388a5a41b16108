pub mod Run
pub mod OneFile
pub mod Shown
pub mod Condition2
pub mod ZeroBytes
pub mod Refusal29
pub mod Condition3
