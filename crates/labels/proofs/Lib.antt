pub mod Words
pub mod Promise
pub mod Sheets
mod Kept
mod Pass
mod Answers
