pub mod Applied
pub mod Facts
pub mod Laws
pub mod Making
pub mod Nodes
