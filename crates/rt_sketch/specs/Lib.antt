pub mod Heights
pub mod Recognized
pub mod Sketch
pub mod Sketched
