pub mod Falling
pub mod Leading
pub mod Middles
pub mod Places
