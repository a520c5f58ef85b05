-- What is answered of a tree and left of the output, by the tables. Definitions; they assume nothing.
use Rattle.std.specs.Prelude.{List, [], ◌∷◌, ◌++◌, ℕ, ◌-◌, ◌/◌, ltb, length, replicate}
use Rattle.token.specs.Kind
use Rattle.tree.specs.Tree.{Tree}
use Rattle.grammar.specs.Reading.Limit.{depth_limit, too_deep, short_output}
use Rattle.grammar.specs.Reading.Result.{ifb}
use Rattle.grammar.specs.Canonical.Writing.{Wrote, bare}
use Rattle.grammar.specs.declared.Written.TheVariants.{Tokens, Stopped, Refused}
use Rattle.tables.specs.Form.{Own}
use Rattle.tables.specs.Layout.{text, within}

-- what is answered and left of a text, in an output of m words
unfoldable pub in_room : List ℕ → ℕ → Wrote
in_room X m = ifb (ltb m (length X)) (λ _. bare m (Refused short_output)) (λ _. record { answer = Tokens (length X / 2); output = X ++ replicate (m - length X) 0 })

-- what is answered and left of a tree, by the tables
unfoldable pub run_out : Tree → ℕ → Wrote
run_out t m = ifb (within t Own depth_limit) (λ _. in_room (text t Own (Kind.Semicolon ∷ 0 ∷ [])) m) (λ _. bare m (Stopped too_deep))
