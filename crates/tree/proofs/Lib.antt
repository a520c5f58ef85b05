-- What the proofs of several functions use; `Copies` is used in `pattern` too.
pub mod Copies
