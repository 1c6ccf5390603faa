pub mod Keys
pub mod Splitting
pub mod Tests
pub mod Texts
