pub mod Keyed
pub mod Edited
pub mod Changed
