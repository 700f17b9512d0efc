pub mod Finds
pub mod Judges
