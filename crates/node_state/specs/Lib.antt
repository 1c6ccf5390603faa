pub mod Closing
pub mod Handed
pub mod Held
pub mod Known
pub mod Members
pub mod Progress
