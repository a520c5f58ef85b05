-- What the loop of `labels::entries::Entries::any_kept` keeps. Assumes nothing.
use mathlib.Core.Path.{◌≡◌}
use Rattle.labels.specs.Offences.{any_serves}
use Rattle.labels.specs.Entries.{kind_of, held, around}
use Rattle.labels.proofs.entries.Entries.any_kept.Given as goal

abbrev pub invariant-loop-i : goal.invariant-loop-i
invariant-loop-i l = any_serves (kind_of l.jump.kind) l.jump.label (around (held l.self.words.now l.self.count)) ≡ any_serves (kind_of l.jump.kind) l.jump.label (around (held l.self.words.now l.i))
