pub mod Shapes
pub mod Times
pub mod Records
pub mod Batches
