pub mod Commands
pub mod Generate
pub mod Reading
pub mod Running
pub mod Serving
pub mod Statuses
