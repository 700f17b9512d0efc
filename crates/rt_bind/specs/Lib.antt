pub mod Faces
pub mod Apart
pub mod Checks
pub mod Parts
pub mod Straight
pub mod Keys
