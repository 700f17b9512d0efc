pub mod Tracks
pub mod Index
pub mod Trees
pub mod Reading
pub mod Calls
pub mod Client
