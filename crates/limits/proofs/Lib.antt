-- What several proofs share.
mod Looped
