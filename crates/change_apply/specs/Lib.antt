pub mod Applied
pub mod Copied
