-- Lists, counts and cases
pub mod Lists
pub mod Counts
pub mod Cases
pub mod Files
pub mod Accessors
pub mod EightFiles
pub mod Proper
-- From each change to every run
pub mod Walk
pub mod Calls
pub mod Made
pub mod Lift
-- A file after any run
mod Ids
pub mod Places
pub mod Sides
pub mod Outstanding
mod One
pub mod Bounds
pub mod Records
mod Stores
pub mod Room
pub mod Lying
mod Shares
pub mod Tails
pub mod Queues
-- Settling
pub mod Settled
mod Rest
mod Apart
-- Timers
pub mod Clock
pub mod Timers
pub mod Sieve
-- The allocation of entries
mod Taken
pub mod Allots
pub mod Happenings
pub mod Midst
pub mod Comes
pub mod Lapses
pub mod Allocated
mod Told
-- Isolation
pub mod Isolation
