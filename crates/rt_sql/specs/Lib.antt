pub mod Answers
pub mod Cut
pub mod Front
pub mod Lexeme
pub mod Piece
