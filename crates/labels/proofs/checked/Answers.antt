-- `labels::checked` meets its contract. Assumes nothing.
use mathlib.Core.Path.{sym, ◌∙◌}
use Rattle.writer.proofs.Entry.{shape_at}
use Rattle.labels.proofs.Answers.{no_tree, illegal, legal}
use Rattle.labels.proofs.checked.Goals.{else-shape-via-then-shape+else-legal, else-shape-via-else-shape}
use Rattle.labels.proofs.checked.Goals as goal

pub returns-then-legal : goal.returns-then-legal
returns-then-legal c = let z = shape_at c.shape.ensures c.if-shape.true in
    c.first_offender.ensures.how z.0 z.2 ∙ sym (legal z.1 z.2 (sym (c.legal.ensures.how z.0 z.2) ∙ c.if-legal.true))

pub returns-else-shape : goal.returns-else-shape
returns-else-shape c = elim c.else-shape.branch [
  | else-shape-via-then-shape+else-legal w ↦
      let z = shape_at c.shape.ensures w.if-shape.true in
      sym (illegal z.1 z.2 (sym (w.legal.ensures.how z.0 z.2) ∙ w.if-legal.false))
  | else-shape-via-else-shape w ↦ sym (no_tree _ (shape_at c.shape.ensures w.if-shape.false))
]
