pub mod Commas
pub mod Cuts
pub mod Options
pub mod Parentheses
pub mod Readings
pub mod Refusals
pub mod Spaces
pub mod Values
