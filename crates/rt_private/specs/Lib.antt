pub mod Rights
pub mod Asked
pub mod Laws
