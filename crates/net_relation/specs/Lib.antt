pub mod Laws
pub mod Matching
pub mod Reading
