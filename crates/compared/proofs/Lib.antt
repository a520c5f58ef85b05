-- What several proofs share.
mod Behind
mod Counted
