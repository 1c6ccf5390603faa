pub mod Causes
pub mod Listing
pub mod Outcomes
pub mod Putting
pub mod Reading
pub mod Scanning
pub mod Spaces
