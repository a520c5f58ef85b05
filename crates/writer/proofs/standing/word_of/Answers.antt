-- `writer::standing::word_of` meets its contract. Assumes nothing.
use mathlib.Core.Path.{◌∙◌}
use Rattle.writer.specs.Standing.{word}
use Rattle.writer.proofs.Numbers.{tests}
use Rattle.writer.proofs.Keeping.{byte_is}
use Rattle.writer.proofs.standing.word_of.Goals.{then-class-ge-LABELLED-via-then-class-ge-LABELLED, then-class-ge-LABELLED-via-else-class-ge-LABELLED+then-b-ge-FAR}
use Rattle.writer.proofs.standing.word_of.Goals as goal

pub returns-then-class-ge-LABELLED : goal.returns-then-class-ge-LABELLED
unfolding word
returns-then-class-ge-LABELLED c = elim c.then-class-ge-LABELLED.branch [
  | then-class-ge-LABELLED-via-then-class-ge-LABELLED w ↦ search tests
  | then-class-ge-LABELLED-via-else-class-ge-LABELLED+then-b-ge-FAR w ↦ search tests
]

pub returns : goal.returns
unfolding word
returns c = rw (c.from.ensures ∙ byte_is c.args.labelled, c.from-2.ensures ∙ byte_is c.args.serves) (search tests)
