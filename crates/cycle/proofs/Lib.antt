-- What the proofs of several functions use.
mod Climb
mod PathsBody
mod PathsCond
mod PathsControl
mod PathsExpr
mod PathsFunction
mod PathsList
mod PathsParams
mod PathsPrimary
mod PathsStmt
mod Shapes
mod Trees
mod Writing
