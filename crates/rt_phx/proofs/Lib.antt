pub mod Frames
pub mod Pieces
pub mod Reading
pub mod Spelling
