pub mod Actions
pub mod Capture
pub mod Reading
pub mod Spellings
pub mod Texts
