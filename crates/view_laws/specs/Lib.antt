pub mod Contents
pub mod Known
pub mod Laws
pub mod Past
