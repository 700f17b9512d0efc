pub mod Drawn
pub mod HeightsOf
pub mod Kept
pub mod Leaves
pub mod Opens
pub mod Plain
pub mod Steps
