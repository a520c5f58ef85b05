pub mod Numbers
mod Laws
mod Shaping
mod Texts
mod Spots
mod Keeping
mod Places
mod Kids
mod Fitted
mod Targets
mod Functions
mod Chains
mod Validity
mod Walk
mod Visits
mod Writing
mod Nodes
mod Sides
mod Ending
pub mod Entry
