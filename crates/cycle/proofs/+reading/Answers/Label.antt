-- What is left to show of `cycle::label` in its cycle of calls. Assumes nothing.
use mathlib.Core.Path.{refl, sym, ◌∙◌}
use mathlib.Core.List.{[], append-nil}
use native.Mathlib.Omega.{arith}
use Rattle.tree.specs.Node
use Rattle.scan.proofs.Laws.{hands, way, here, taken, fails_unseen, later, continued}
use Rattle.nodes.proofs.Made.{over_two}
use Rattle.cycle.proofs.PathsStmt.{stmt_label_looks, while_as, label_loop, label_while, label_for, label_alone}
use Rattle.cycle.proofs.Writing.{fails_with}
use Rattle.grammar.specs.Reading.Stmt.{stmt_list_of}
use Rattle.cycle.proofs.+reading.Goals as goal

pub label-returns-in-57 : goal.label-returns-in-57
label-returns-in-57 t c = let tk = taken c.in_ok-token.ensures in
    later (label_loop _ _ tk _ c.in-57.is) c.loops.ensures (omega arith) (omega arith) (omega arith)

pub label-returns-in-58 : goal.label-returns-in-58
label-returns-in-58 t c = let tk = taken c.in_ok-token.ensures in
    continued (λ x. Node.while_loop c.args.label x.over (stmt_list_of x.run)) [] c.whiles.ensures (way _ (label_while _ _ tk _ c.in-58.is ∙ while_as _ _ _ _)) (sym (append-nil _)) (λ x. over_two 4 _ _ _) refl (omega arith)

pub label-returns-in-59 : goal.label-returns-in-59
label-returns-in-59 t c = let tk = taken c.in_ok-token.ensures in
    later (label_for _ _ tk _ c.in-59.is) c.each.ensures (omega arith) (omega arith) (omega arith)

pub label-returns-in_default : goal.label-returns-in_default
label-returns-in_default t c = let tk = taken c.in_ok-token.ensures in
    fails_with (label_alone _ _ tk _ (search) (search) (search)) (omega arith) (omega arith)

pub label-returns-in_err-token : goal.label-returns-in_err-token
label-returns-in_err-token t c = hands c.from_residual.ensures.1 (fails_unseen here (stmt_label_looks _ _ _ _) c.in_err-token.ensures refl (omega arith))
