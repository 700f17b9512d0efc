pub mod Order
pub mod Middle
pub mod Places
pub mod Settled
pub mod Updates
pub mod Walk
