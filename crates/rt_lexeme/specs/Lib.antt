pub mod Among
pub mod Long
pub mod Look
