pub mod Ends
pub mod Lists
pub mod Parameters
pub mod Parts
