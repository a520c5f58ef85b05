-- What is asked of an answer where it is a tree. A definition; it assumes nothing.
use Rattle.std.specs.Prelude.{List, ℕ}
use Rattle.grammar.specs.declared.Answer.{Answer}
use Rattle.grammar.specs.declared.Answer.TheVariants.{Tree as ATree, Error as AError, End, Stopped, Refused}

-- P holds of the number of a tree's nodes and of the store
abbrev pub OfTree : (ℕ → List ℕ → Type 0) → Answer → List ℕ → Type 0
OfTree P (ATree nodes) store = P nodes store
OfTree P (AError kind) store = Unit {0}
OfTree P End store = Unit {0}
OfTree P (Stopped n) store = Unit {0}
OfTree P (Refused n) store = Unit {0}
