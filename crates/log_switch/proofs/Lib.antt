pub mod Logging
pub mod Numbered
pub mod Ranges
pub mod Ranging
