-- What printing an answer asks of the store. A definition; it assumes nothing.
use Rattle.std.specs.Prelude.{ℕ, ◌*◌, ◌≤◌, List, length}
use Rattle.grammar.specs.declared.Answer.{Answer}
use Rattle.agreement.specs.Trees.{OfTree}

-- a tree's records stand in the store
abbrev pub Holds : Answer → List ℕ → Type 0
Holds = OfTree (λ nodes store. 2 * nodes ≤ length store)
