-- What the loops of `writer::legal::legal` keep. Assumes nothing.
use mathlib.Core.Path.{◌≡◌}
use Prim.Native.Nat.{◌*◌}
use Rattle.writer.proofs.Visits.{Going}
use Rattle.writer.proofs.legal.legal.Given as goal

abbrev pub invariant-loop-node : goal.invariant-loop-node
invariant-loop-node l = (l.standing.records.now ≡ l.records) × Going l.records l.standing.kept.now (2 * l.node) l.standing.count l.standing.base
