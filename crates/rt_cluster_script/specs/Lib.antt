pub mod Script
pub mod Agreeing
