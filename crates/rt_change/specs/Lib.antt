pub mod Binding
pub mod Shape
pub mod Verdicts
