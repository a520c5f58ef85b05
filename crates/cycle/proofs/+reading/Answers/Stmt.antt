-- What is left to show of `cycle::stmt` in its cycle of calls. Assumes nothing.
use mathlib.Core.Path.{refl, sym, ◌∙◌}
use mathlib.Core.List.{[], append-nil}
use native.Mathlib.Omega.{arith}
use lib.ListN.{take}
use Rattle.tree.specs.Node
use Rattle.scan.proofs.Laws.{hands, way, here, goes, done, undone, taken, fails, fails_unseen, prefix, later, continued}
use Rattle.nodes.proofs.Made.{over_two, made_one}
use Rattle.cycle.proofs.PathsStmt.{stmt_looks, while_as, stmt_loop, stmt_while, stmt_for, stmt_labelled, stmt_assert, stmt_control, stmt_expr}
use Rattle.cycle.proofs.Shapes.{given, expr_shape}
use Rattle.cycle.proofs.Writing.{written, fails_with}
use Rattle.grammar.specs.Reading.Stmt.{stmt_list_of}
use Rattle.cycle.proofs.+reading.Goals as goal

pub stmt-returns-in_err-condition-in-67 : goal.stmt-returns-in_err-condition-in-67
stmt-returns-in_err-condition-in-67 t c = let tk = taken c.in_ok-token.ensures in
    let path = way _ (stmt_assert _ _ tk c.in-67.is) in
    hands c.from_residual-in_err-condition-in-67.ensures.1 (fails _ path (undone c.in_err-condition-in-67.ensures) refl (omega arith))

pub stmt-returns-then-is_control : goal.stmt-returns-then-is_control
stmt-returns-then-is_control t c = let tk = taken c.in_ok-token.ensures in
    let na = c.not_allowed.ensures in
    fails_with (stmt_control _ _ tk (search) (search) (search) (search) (search) c.is_control.ensures c.if-is_control.true ∙ rw (← na)) (omega arith) (omega arith)

pub stmt-returns-in_err-expression-in_default : goal.stmt-returns-in_err-expression-in_default
stmt-returns-in_err-expression-in_default t c = let tk = taken c.in_ok-token.ensures in
    let track = way _ (stmt_expr _ _ tk (search) (search) (search) (search) (search) c.is_control.ensures c.if-is_control.false) in
    hands c.from_residual-in_err-expression-in_default.ensures.1 (fails _ track (undone c.in_err-expression-in_default.ensures) refl (omega arith))

pub stmt-expression_end-requires : goal.stmt-expression_end-requires
stmt-expression_end-requires t c = let tk = taken c.in_ok-token.ensures in
    let v = done c.in_ok-expression-in_default.ensures in
    let sh = given (expr_shape _ _ _) v.same in
    (record { before = take c.args.cursor.at c.args.store.now; tree = v.what; shape = sh; text = v.text; within = omega arith }, omega arith)

pub stmt-returns-in-57 : goal.stmt-returns-in-57
stmt-returns-in-57 t c = let tk = taken c.in_ok-token.ensures in
    later (stmt_loop _ _ tk c.in-57.is) c.loops.ensures (omega arith) (omega arith) (omega arith)

pub stmt-returns-in-58 : goal.stmt-returns-in-58
stmt-returns-in-58 t c = let tk = taken c.in_ok-token.ensures in
    continued (λ x. Node.while_loop 0 x.over (stmt_list_of x.run)) [] c.whiles.ensures (way _ (stmt_while _ _ tk c.in-58.is ∙ while_as _ _ _ _)) (sym (append-nil _)) (λ x. over_two 4 _ _ _) refl (omega arith)

pub stmt-returns-in-59 : goal.stmt-returns-in-59
stmt-returns-in-59 t c = let tk = taken c.in_ok-token.ensures in
    later (stmt_for _ _ tk c.in-59.is) c.each.ensures (omega arith) (omega arith) (omega arith)

pub stmt-returns-in-73 : goal.stmt-returns-in-73
stmt-returns-in-73 t c = let tk = taken c.in_ok-token.ensures in
    later (stmt_labelled _ _ tk c.in-73.is) c.label.ensures (omega arith) (omega arith) (omega arith)

pub stmt-returns-in_ok-condition-in-67 : goal.stmt-returns-in_ok-condition-in-67
stmt-returns-in_ok-condition-in-67 t c = let tk = taken c.in_ok-token.ensures in
    let w = done c.in_ok-condition-in-67.ensures in
    let path = way _ (stmt_assert _ _ tk c.in-67.is) in
    record { how = made_one 6 w c.emit.ensures (goes _ path w.same) (omega arith) (omega arith) refl }

pub stmt-returns-in_ok-expression-in_default : goal.stmt-returns-in_ok-expression-in_default
stmt-returns-in_ok-expression-in_default t c = let tk = taken c.in_ok-token.ensures in
    let v = done c.in_ok-expression-in_default.ensures in
    let track = way _ (stmt_expr _ _ tk (search) (search) (search) (search) (search) c.is_control.ensures c.if-is_control.false) in
    let sh = given (expr_shape _ _ _) v.same in
    written (c.expression_end.ensures _ _ _ sh v.text v.moved.within) refl (goes _ track v.same) (prefix v (omega (arith, c.requires, v.moved, v.room))) (omega (arith, c.requires, v.moved, v.room, tk.within))

pub stmt-returns-in_err-token : goal.stmt-returns-in_err-token
stmt-returns-in_err-token t c = hands c.from_residual.ensures.1 (fails_unseen here (stmt_looks _ _ _) c.in_err-token.ensures refl (omega arith))
