-- A call begins, and it ends
pub mod Begins
pub mod FileStands
pub mod New
pub mod EndsUnwritten
pub mod RowUntouched
pub mod StandsBehind
-- Rows and record buffers
pub mod Rows
pub mod Own
-- Lists of entries
pub mod Lists
mod Boxed
mod Alike
mod Lows
pub mod Cuts
mod OnePlace
mod Shifts
pub mod Placed
-- Requests: they begin to wait, complete, are cancelled, are collected
pub mod Terms
mod Joins
pub mod Waits
mod Goes
pub mod EntryLeaves
mod Collects
pub mod Changes
pub mod Requests
pub mod Heads
-- Records, and what every change keeps
pub mod Walks
pub mod Stores
pub mod StaysFine
-- Refused, or not
pub mod Judged
pub mod Accepted
pub mod Refused
