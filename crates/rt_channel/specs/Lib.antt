pub mod Effects
pub mod Taken
