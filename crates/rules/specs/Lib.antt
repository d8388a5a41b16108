-- The files in the order of document 01's headings.

-- What the desk holds
pub mod Limits
pub mod State
pub mod Desk
pub mod Memories
pub mod Allocation
-- Geometry
pub mod Geometry
pub mod Store
pub mod Buffers
-- Room and order
pub mod Requests
pub mod Settle
pub mod Transfer
pub mod Close
pub mod Open
pub mod Time
-- Events
pub mod Line
pub mod Frames
pub mod Answers
pub mod TransferCounts
pub mod Controls
pub mod Look
pub mod FileCounts
-- Statuses
pub mod Reply
pub mod Calls
-- The saved sheet
pub mod Sheet
