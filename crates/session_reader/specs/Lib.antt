pub mod Fetching
pub mod Sessions
pub mod Texts
