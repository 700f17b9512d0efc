pub mod Asked
pub mod Bindings
pub mod Numbered
pub mod Kept
