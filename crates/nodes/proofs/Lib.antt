-- What the proofs of several functions use.
pub mod Algebra
pub mod Ends
pub mod Made
pub mod Names
