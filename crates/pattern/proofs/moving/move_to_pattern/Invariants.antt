-- What the loops of `pattern::moving::move_to_pattern` keep, and what falls. Assumes nothing.
use mathlib.Core.Path.{◌≡◌}
use Prim.Native.Nat.{◌≤◌}
use lib.ListN.{length, take, drop}
use Rattle.tree.specs.Tree.{Tree}
use Rattle.grammar.specs.Reading.Pattern.{to_pattern}
use Rattle.pattern.specs.Contract.{Fit}
use Rattle.pattern.proofs.Moved.{Going}
use Rattle.pattern.proofs.moving.move_to_pattern.Given as goal

abbrev pub invariant-loop-i : goal.invariant-loop-i
invariant-loop-i l = (l.i ≤ l.w) × (l.w ≤ l.to) × (length l.store ≡ length l.initial.store) × ((t p : Tree) → Fit t p l.initial.store l.from l.to → Going (to_pattern t) (take l.from l.initial.store) (drop l.to l.initial.store) l.store l.i l.w)

abbrev pub decreases-loop-i : goal.decreases-loop-i
decreases-loop-i l = l.i
