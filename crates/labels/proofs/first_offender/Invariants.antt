-- What the loops of `labels::first_offender` keep. Assumes nothing.
use Prim.Native.Nat.{◌*◌}
use Rattle.labels.proofs.Pass.{Going}
use Rattle.labels.proofs.first_offender.Given as goal

abbrev pub invariant-loop-i : goal.invariant-loop-i
invariant-loop-i l = Going l.records l.entries.words.now (2 * l.i) l.pending l.entries.count l.found
