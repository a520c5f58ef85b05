pub mod Laws
pub mod Theorem
pub mod Corollaries
pub mod Never
pub mod Levels
pub mod Examples
