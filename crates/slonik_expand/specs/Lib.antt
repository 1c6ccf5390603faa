pub mod Ends
pub mod Expansion
pub mod Reading
pub mod Shared
pub mod Steps
pub mod Uses
