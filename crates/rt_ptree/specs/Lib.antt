pub mod Entries
pub mod Change
pub mod Pieces
pub mod Parts
pub mod Orderly
pub mod Walk
pub mod Sharing
