-- What the loop of `labels::behind::next_above` keeps, and what falls. Assumes nothing.
use mathlib.Core.Path.{◌≡◌}
use Prim.Native.Nat.{◌+◌, ◌-◌, ◌≤◌}
use lib.ListN.{length, drop}
use Rattle.labels.specs.Behind.{enclosing}
use Rattle.labels.proofs.behind.next_above.Given as goal

abbrev pub invariant-loop-rest : goal.invariant-loop-rest
invariant-loop-rest l = (1 ≤ l.h) × (l.h + length l.rest ≤ length l.records + 1) × (enclosing 1 l.records ≡ enclosing l.h l.rest) × (l.rest ≡ drop (length l.records - length l.rest) l.records)

abbrev pub decreases-loop-rest : goal.decreases-loop-rest
decreases-loop-rest l = length l.rest
