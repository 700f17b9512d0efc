pub mod Halts
pub mod Inside
pub mod Opens
pub mod Plain
