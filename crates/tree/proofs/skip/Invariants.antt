-- What the loops of `tree::skip` keep, and what falls. Assumes nothing.
use mathlib.Core.List.{List}
use Prim.Native.Nat.{ℕ, ◌≤◌}
use lib.ListN.{length, take}
use Rattle.tree.specs.Rows.{Trees}
use Rattle.tree.proofs.skip.Given as goal

-- whatever stands before the trees, it and those that are still needed stand up to i
abbrev pub invariant-loop-need : goal.invariant-loop-need
invariant-loop-need l = (l.i ≤ length l.store) × ((B : List ℕ) → Trees B (take l.to l.store) l.n → Trees B (take l.i l.store) l.need)

abbrev pub decreases-loop-need : goal.decreases-loop-need
decreases-loop-need l = l.i
