pub mod Charging
pub mod Compared
pub mod Entries
pub mod Numbers
pub mod Order
pub mod Padded
pub mod Spelled
