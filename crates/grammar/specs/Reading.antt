-- The definition of reading, from results and tokens up to the call as a whole; then which tokens a call looks at, and the calls on a sheet as an editor keeps them.
pub mod Limit
pub mod Number
pub mod Result
pub mod Pattern
pub mod Look
pub mod Expr
pub mod Primary
pub mod Block
pub mod Function
pub mod Stmt
pub mod Depth
pub mod Next
pub mod Looked
pub mod Kept
