-- `print_answers`: each answer's tree stands in the store, and the calls come to an end. Assumes nothing.
use mathlib.Core.Path.{sym, ◌∙◌}
use Rattle.grammar.proofs.Laws.Returned.{fresh_accepted}
use Rattle.treelist.proofs.Calls.{held, nearer, accepted}
use Rattle.treelist.proofs.print_answers.Goals as goal

pub loop-reader-init : goal.loop-reader-init
loop-reader-init g c = fresh_accepted _

pub print-requires : goal.print-requires
print-requires g c = held _ _ _ c.next_stmt-step.ensures

pub loop-reader-smaller : goal.loop-reader-smaller
loop-reader-smaller g c =
    nearer _ _ _ c.next_stmt-step.ensures c.loop-reader.invariant
    (sym c.goes_on.ensures ∙ c.if-not-goes_on.false)

pub loop-reader-preserved : goal.loop-reader-preserved
loop-reader-preserved g c = accepted _ _ _ c.next_stmt-step.ensures c.loop-reader.invariant
