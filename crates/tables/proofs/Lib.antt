pub mod Operators
pub mod Valid
pub mod Same
pub mod Answer
pub mod Examples
