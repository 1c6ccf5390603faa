pub mod Asks
pub mod Causes
pub mod Ends
pub mod Runs
