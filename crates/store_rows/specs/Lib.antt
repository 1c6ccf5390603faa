pub mod Rows
pub mod Scan
pub mod Space
pub mod Spending
pub mod Steps
pub mod Stops
