-- Operators stand by their levels in every tree that a reading gives.
pub mod Leveled
pub mod Records
pub mod Parts
pub mod Always
pub mod Patterns
pub mod Nonterminals
