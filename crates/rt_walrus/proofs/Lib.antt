pub mod Cases
pub mod Given
pub mod Shaped
pub mod Shown
