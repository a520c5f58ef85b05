-- What is read cleanly is valid, nonterminal by nonterminal. A statement may end in a comma that only `)` excuses; then nothing reads cleanly behind it.
pub mod Base
pub mod Expr
pub mod Primary
pub mod Block
pub mod Function
pub mod Stmt
