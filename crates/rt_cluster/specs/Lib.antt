pub mod Operations
pub mod Shown
pub mod Standing
pub mod Laws
pub mod Index
pub mod Ranges
pub mod Examples
