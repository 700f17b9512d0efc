pub mod Faults
pub mod Lexing
pub mod Messages
pub mod Output
pub mod Printed
pub mod Script
pub mod Statements
