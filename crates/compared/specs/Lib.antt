-- What the contracts of compared cite.
pub mod Said
pub mod Tally
pub mod Trials
pub mod Calls
