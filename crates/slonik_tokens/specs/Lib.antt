pub mod Cut
pub mod Faults
pub mod Spelling
pub mod Tokens
