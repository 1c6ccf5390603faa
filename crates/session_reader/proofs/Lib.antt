pub mod Blocks
pub mod Going
pub mod Heard
pub mod Spoken
