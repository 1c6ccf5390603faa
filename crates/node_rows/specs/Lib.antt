pub mod Reading
pub mod Spellings
