pub mod Calls
pub mod Answers
pub mod Statement
pub mod Ordered
pub mod Trees
pub mod Corollaries
pub mod Never
pub mod Levels
