-- The definition of canonical tokens: what a tree is written as, of how many tokens, which trees a reading gives, and the writer's call as a whole.
pub mod Write
pub mod Valid
pub mod Count
pub mod Need
pub mod Writing
