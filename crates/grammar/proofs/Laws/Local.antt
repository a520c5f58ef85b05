-- A reading depends on the tokens that it looks at, and on no others: what specs/Locality.antt states.
pub mod Base
pub mod Nonterminals
pub mod Looks
pub mod Calls
pub mod Edited
pub mod Peeked
