-- What is left to show of `cycle::loops` in its cycle of calls. Assumes nothing.
use mathlib.Core.Path.{refl, sym}
use mathlib.Core.List.{[], append-nil}
use native.Mathlib.Omega.{arith}
use Rattle.tree.specs.Node
use Rattle.scan.proofs.Laws.{hands, way}
use Rattle.nodes.proofs.Made.{over_one}
use Rattle.cycle.proofs.PathsBody.{closable, under, unlisted}
use Rattle.cycle.proofs.PathsStmt.{loop_step}
use Rattle.grammar.specs.Reading.Stmt.{stmt_list_of}
use Rattle.cycle.proofs.+reading.Goals as goal

pub loops-returns-in_err-statements : goal.loops-returns-in_err-statements
loops-returns-in_err-statements t c = hands c.from_residual.ensures.1 (unlisted _ c.in_err-statements.ensures (way _ (loop_step _ _ _ _)) refl (omega arith))

pub loops-list_under-requires : goal.loops-list_under-requires
loops-list_under-requires t c = closable _ c.in_ok-statements.ensures (omega arith)

pub loops-returns : goal.loops-returns
loops-returns t c = under (λ s. Node.loop c.args.label (stmt_list_of s)) [] c.in_ok-statements.ensures c.list_under.ensures (way _ (loop_step _ _ _ _)) (sym (append-nil _)) (λ s. over_one 3 _ _) (omega arith)
