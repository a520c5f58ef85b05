-- What the proofs of several functions use.
pub mod Laws
pub mod Looking
pub mod Start
pub mod Text
pub mod Waiting
