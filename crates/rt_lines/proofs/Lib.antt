mod Cut
pub mod Either
mod Numbers
