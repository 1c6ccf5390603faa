pub mod Between
pub mod Holds
