-- `writer::write_stmt` meets its contract. Assumes nothing.
use mathlib.Core.Path.{sym, ap, ◌∙◌}
use Rattle.tables.specs.Answer.{run_out}
use Rattle.tables.proofs.Answer.{cleared}
use Rattle.writer.proofs.Entry.{shape_at, no_tree, illegal, legal}
use Rattle.writer.proofs.write_stmt.Goals.{else-shape-via-then-shape+else-decided, else-shape-via-else-shape}
use Rattle.writer.proofs.write_stmt.Goals as goal

-- the output, which may have been lent, is as long as it was
pub returns-else-shape : goal.returns-else-shape
returns-else-shape c = cleared c.else-shape.output _ _ c.clear.ensures c.else-shape.auto.output (elim c.else-shape.branch [
  | else-shape-via-then-shape+else-decided w ↦
      let z = shape_at c.shape.ensures w.if-shape.true in
      illegal z.1 z.2 _ (sym (w.decided.ensures.how z.0 z.2) ∙ w.if-decided.false)
  | else-shape-via-else-shape w ↦ no_tree _ _ (shape_at c.shape.ensures w.if-shape.false)
])

pub returns-then-decided : goal.returns-then-decided
returns-then-decided c =
    let z = shape_at c.shape.ensures c.if-shape.true in
    c.run_out.ensures.how z.0 z.2 ∙ ap (run_out z.0) c.decided.auto.output ∙ sym (legal z.1 z.2 _ (sym (c.decided.ensures.how z.0 z.2) ∙ c.if-decided.true))
