pub mod Changed
pub mod Keyed
