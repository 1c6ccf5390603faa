pub mod Behind
pub mod Delivers
pub mod Lines
