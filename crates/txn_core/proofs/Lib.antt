pub mod Covering
pub mod Holding
pub mod KeyedMaps
pub mod OwnedRows
pub mod SnapshotParts
pub mod SnapshotTexts
pub mod TableWriters
pub mod Ties
