-- What the loop of `labels::behind::any_behind` keeps, and what falls. Assumes nothing.
use mathlib.Core.Path.{◌≡◌}
use lib.ListN.{length}
use Rattle.labels.specs.Offences.{any_serves}
use Rattle.labels.specs.Entries.{kind_of}
use Rattle.labels.specs.Behind.{enclosing}
use Rattle.labels.proofs.behind.any_behind.Given as goal

-- what is asked of the tree before the records is asked of the tree before the rest of them
abbrev pub invariant-loop-node : goal.invariant-loop-node
invariant-loop-node l = any_serves (kind_of l.jump.kind) l.jump.label (enclosing 1 l.records) ≡ any_serves (kind_of l.jump.kind) l.jump.label (enclosing 1 l.rest)

abbrev pub decreases-loop-node : goal.decreases-loop-node
decreases-loop-node l = length l.rest
