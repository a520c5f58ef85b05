pub mod Stack
pub mod Text
pub mod Form
pub mod Standing
pub mod Verdict
pub mod Post
pub mod Promise
