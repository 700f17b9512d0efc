pub mod Columns
pub mod Tested
pub mod Meanings
