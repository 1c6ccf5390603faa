pub mod Holds
pub mod Loaded
pub mod Rows
