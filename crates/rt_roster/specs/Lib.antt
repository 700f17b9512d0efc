pub mod Meant
pub mod Whys
