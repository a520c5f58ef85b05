-- What several proofs share.
mod Scans
mod Inputs
mod Texts
mod Calls
