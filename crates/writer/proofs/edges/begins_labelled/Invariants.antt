-- What the loops of `writer::edges::begins_labelled` keep, and what falls. Assumes nothing.
use mathlib.Core.Bool.{false}
use Rattle.std.specs.Option.{option_map_or}
use Rattle.tables.specs.Check.{begins_labelled}
use Rattle.writer.proofs.Chains.{Down}
use Rattle.writer.proofs.edges.begins_labelled.Given as goal

abbrev pub invariant-loop-q : goal.invariant-loop-q
invariant-loop-q l = Down l.records l.p l.q (λ m. option_map_or begins_labelled m false)

abbrev pub decreases-loop-q : goal.decreases-loop-q
decreases-loop-q l = l.q
