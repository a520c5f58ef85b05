pub mod Lists
pub mod Parts
