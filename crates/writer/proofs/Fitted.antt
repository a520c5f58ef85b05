-- What a test that goes over a tree's children says, by its answer. Assumes nothing.
use mathlib.Core.Path.{◌≡◌}
use mathlib.Core.Bool.{Bool}
use mathlib.Core.List.{List, ◌∷◌}
use Prim.Native.Nat.{ℕ}
use Rattle.tree.specs.Tree.{Tree}
use Rattle.std.specs.declared.option.Option.{Option}
use Rattle.writer.specs.Stack.{At}
use Rattle.writer.specs.Verdict.{FitAs, Fit}

module _ {L : List ℕ} {p : ℕ} {test : Tree → Bool} {r : Option ℕ} (w : Fit L p test r) (t : Tree) (s : List Tree) (a : At L p (t ∷ s)) where
  pub fit_at : {x : Option ℕ} → r ≡ x → FitAs (test t) L s x
  fit_at e = rw e at (w.how t s a)
