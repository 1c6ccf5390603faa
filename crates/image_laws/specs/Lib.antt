pub mod Deltas
pub mod Facts
pub mod Fits
pub mod Laws
pub mod Moments
