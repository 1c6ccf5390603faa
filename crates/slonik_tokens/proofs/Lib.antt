pub mod Answered
pub mod Complete
pub mod Goes
pub mod Quotes
pub mod Readings
pub mod Runs
pub mod Sound
pub mod Texts
