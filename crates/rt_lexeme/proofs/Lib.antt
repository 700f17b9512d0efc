pub mod Among
pub mod Tokens
