pub mod Answered
pub mod Long
pub mod LongExpr
pub mod Parsed
