-- The canonical tokens of a valid tree read back to it, at exactly the depth that it needs.
pub mod Steps
pub mod Follow
pub mod Starts
pub mod Snoc
pub mod Patterns
pub mod Expr
pub mod Given
pub mod Primary
pub mod Function
pub mod Block
pub mod Unary
pub mod Stmt
pub mod Depths
