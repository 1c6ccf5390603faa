pub mod Names
pub mod Spoken
pub mod WordBytes
