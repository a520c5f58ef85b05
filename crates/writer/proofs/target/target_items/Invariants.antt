-- What the loops of `writer::target::target_items` keep. Assumes nothing.
use mathlib.Core.List.{List, ◌∷◌}
use Prim.Native.Nat.{ℕ, ◌-◌}
use Rattle.std.specs.Prelude.{Some}
use Rattle.tree.specs.Tree.{Tree}
use Rattle.grammar.specs.Canonical.Write.{target_items}
use Rattle.writer.specs.Stack.{At}
use Rattle.tables.specs.Children.{count_in, children_in}
use Rattle.writer.proofs.Kids.{Part}
use Rattle.writer.proofs.Targets.{item}
use Rattle.writer.proofs.target.target_items.Given as goal

-- n children were looked at
pub record Going (L : List ℕ) (p q n : ℕ) : Type 0 where
  pub go : (t : Tree) (s : List Tree) → At L p (t ∷ s) → Part L q (count_in (Some t) - n) s item (target_items (children_in (Some t)))

abbrev pub invariant-loop : goal.invariant-loop
invariant-loop l = Going l.records l.p l.q l.counter
