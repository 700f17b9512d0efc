pub mod Numbered
pub mod Variants
