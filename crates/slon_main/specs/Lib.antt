pub mod Ending
pub mod Going
pub mod Running
pub mod Statuses
