pub mod AtOnce
pub mod Plain
pub mod Runs
pub mod Scripts
