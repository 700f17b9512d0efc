pub mod Equal
pub mod Lists
pub mod NumberTexts
pub mod Once
pub mod Rows
