-- What the loop of `writer::records::shape` keeps. Assumes nothing.
use Prim.Native.Nat.{◌*◌}
use Rattle.writer.proofs.Shaping.{Shaping}
use Rattle.writer.proofs.records.shape.Given as goal

abbrev pub invariant-loop-i : goal.invariant-loop-i
invariant-loop-i l = Shaping l.records (2 * l.i) l.h
