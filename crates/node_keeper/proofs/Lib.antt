pub mod Kepts
pub mod Pieces
pub mod Plans
pub mod Promises
pub mod ReadAhead
pub mod SlotPairs
pub mod Touching
pub mod Undoing
