pub mod Faults
pub mod LockMaps
pub mod Locks
pub mod Snapshots
