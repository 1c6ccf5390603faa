pub mod Commands
pub mod Handing
pub mod Joining
pub mod Reading
pub mod Replies
pub mod Shapes
