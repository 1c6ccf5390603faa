pub mod Changing
pub mod Filling
pub mod Logged
pub mod Replacing
pub mod Tables
