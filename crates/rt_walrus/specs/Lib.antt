pub mod Keys
pub mod Sides
pub mod Sighted
