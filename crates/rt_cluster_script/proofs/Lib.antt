pub mod Lists
pub mod Fitting
pub mod OneEnd
pub mod Beginning
pub mod Reaching
