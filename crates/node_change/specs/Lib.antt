pub mod Announced
pub mod Becoming
pub mod Both
pub mod Done
pub mod Forwarding
pub mod Listening
pub mod Pairs
pub mod Receivers
