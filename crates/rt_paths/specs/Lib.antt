pub mod Laws
pub mod Square
