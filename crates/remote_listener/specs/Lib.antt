pub mod Asking
pub mod Delivering
pub mod Queues
pub mod Reading
