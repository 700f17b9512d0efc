pub mod Doing
pub mod Present
pub mod Registered
pub mod Sockets
pub mod Taking
