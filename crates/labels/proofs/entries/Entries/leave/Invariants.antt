-- What the loop of `labels::entries::Entries::leave` keeps, and what falls. Assumes nothing.
use mathlib.Core.Path.{◌≡◌}
use Prim.Native.Nat.{◌≤◌}
use Rattle.labels.specs.Entries.{held, standing}
use Rattle.labels.proofs.entries.Entries.leave.Given as goal

abbrev pub invariant-loop-self : goal.invariant-loop-self
invariant-loop-self l = (l.self.count ≤ l.initial.self.count) × (l.self.words.now ≡ l.initial.self.words.now) × (standing l.pending (held l.initial.self.words.now l.initial.self.count) ≡ standing l.pending (held l.initial.self.words.now l.self.count))

abbrev pub decreases-loop-self : goal.decreases-loop-self
decreases-loop-self l = l.self.count
