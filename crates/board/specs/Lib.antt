pub mod Requests
pub mod Board
pub mod Found
pub mod Swept
pub mod Promise
