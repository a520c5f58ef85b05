-- What the loop of `writer::records::kid_of` keeps. Assumes nothing.
use Prim.Native.Nat.{◌+◌, ◌-◌}
use Rattle.writer.proofs.Kids.{Kids}
use Rattle.writer.proofs.records.kid_of.Given as goal

abbrev pub invariant-loop : goal.invariant-loop
invariant-loop l = Kids l.records l.p l.q (l.n + l.j - l.counter)
