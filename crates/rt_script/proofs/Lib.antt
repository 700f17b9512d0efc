pub mod Blanks
pub mod ReadBack
pub mod Bounded
pub mod Lanes
pub mod EachLine
pub mod OneScript
pub mod OneStream
