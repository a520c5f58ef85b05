-- What the proofs of several functions use.
mod Answers
mod Next
