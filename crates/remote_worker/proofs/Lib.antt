pub mod Abilities
pub mod Counted
pub mod Left
pub mod Looking
pub mod Taking
mod Naming
mod Finding
mod Keys
pub mod Together
