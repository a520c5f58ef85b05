-- What the loops of `pattern::deciding::can_be_pattern` keep, and what falls. Assumes nothing.
use mathlib.Core.List.{List}
use Prim.Native.Nat.{ℕ, ◌≤◌}
use lib.ListN.{length, take}
use Rattle.std.specs.Prelude.{Option}
use Rattle.tree.specs.Tree.{Tree}
use Rattle.grammar.specs.Reading.Pattern.{to_pattern}
use Rattle.pattern.specs.Contract.{Whole}
use Rattle.pattern.proofs.Steps.{Ahead}
use Rattle.pattern.proofs.deciding.can_be_pattern.Given as goal

-- up to i stands what is still to be decided
pub record Seeing (m : Option Tree) (S : List ℕ) (from i : ℕ) : Type 0 where
  pub ahead : List ℕ
  pub left : Ahead m (take from S) (take i S) ahead

abbrev pub invariant-loop-i : goal.invariant-loop-i
invariant-loop-i l = (l.i ≤ length l.store) × ((t : Tree) → Whole t l.store l.from l.to → Seeing (to_pattern t) l.store l.from l.i)

abbrev pub decreases-loop-i : goal.decreases-loop-i
decreases-loop-i l = l.i
