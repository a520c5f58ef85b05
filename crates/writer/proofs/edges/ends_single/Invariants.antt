-- What the loops of `writer::edges::ends_single` keep, and what falls. Assumes nothing.
use mathlib.Core.Bool.{false}
use Rattle.std.specs.Option.{option_map_or}
use Rattle.tables.specs.Check.{ends_single}
use Rattle.writer.proofs.Chains.{Down}
use Rattle.writer.proofs.edges.ends_single.Given as goal

abbrev pub invariant-loop-q : goal.invariant-loop-q
invariant-loop-q l = Down l.records l.p l.q (λ m. option_map_or ends_single m false)

abbrev pub decreases-loop-q : goal.decreases-loop-q
decreases-loop-q l = l.q
