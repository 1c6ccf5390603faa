pub mod Agreed
pub mod Calls
pub mod Clustered
pub mod Failing
pub mod Subscribing
pub mod Telling
pub mod Walking
