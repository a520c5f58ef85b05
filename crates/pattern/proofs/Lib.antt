-- What the proofs of several functions use; `Decided` is used in `nodes` too.
mod Conv
mod Steps
mod Access
mod Moved
pub mod Decided
