-- `writer::standing::first_kept` meets its contract. Assumes nothing.
use mathlib.Core.Path.{sym, ◌∙◌}
use borrow.Author.Tests.{le-ltb, lt-ltb}
use Rattle.grammar.proofs.Laws.Facts.{clash}
use Rattle.writer.specs.Standing.{first_kept}
use Rattle.writer.proofs.Numbers.{tests}
use Rattle.writer.proofs.standing.first_kept.Goals.{then-i-base, else-i-base}
use Rattle.writer.proofs.standing.first_kept.Goals as goal

pub returns-then-n-i : goal.returns-then-n-i
unfolding first_kept
returns-then-n-i c = elim c.if-i-base.branch [
  | then-i-base w ↦ search tests
  | else-i-base w ↦ rw (le-ltb _ _ w.if-i-base.false, sym w.value-is ∙ c.if-n-i.true)
]

pub returns-else-n-i : goal.returns-else-n-i
unfolding first_kept
returns-else-n-i c = elim c.if-i-base.branch [
  | then-i-base w ↦ clash (w.value-is ∙ lt-ltb _ _ w.if-i-base.true) c.if-n-i.false
  | else-i-base w ↦ rw (le-ltb _ _ w.if-i-base.false, sym w.value-is ∙ c.if-n-i.false)
]
