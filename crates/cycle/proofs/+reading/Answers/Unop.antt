-- What is left to show of `cycle::unop` in its cycle of calls. Assumes nothing.
use mathlib.Core.Path.{refl, ◌∙◌}
use native.Mathlib.Omega.{arith}
use Rattle.scan.proofs.Laws.{hands, way, ends, goes, done, undone, taken, fails, fails_unseen, as_agrees}
use Rattle.nodes.proofs.Made.{made_one}
use Rattle.cycle.proofs.PathsExpr.{unary_stops, unary_step, unary_looks, unary_none, unary_some}
use Rattle.cycle.proofs.+reading.Goals as goal

pub unop-returns-then-depth-eq0 : goal.unop-returns-then-depth-eq0
unop-returns-then-depth-eq0 t c = record { how = record { how = ends (unary_stops _ _ _ c.if-depth-eq0.true) } }

pub unop-returns-in_default : goal.unop-returns-in_default
unop-returns-in_default t c = let tk = taken c.in_ok-token.ensures in
    as_agrees (unary_step _ _ _ c.if-depth-eq0.false ∙ unary_none _ _ tk c.which_unary_op.ensures c.in_default.not-Some) c.term.ensures

pub unop-returns-in_err-operand : goal.unop-returns-in_err-operand
unop-returns-in_err-operand t c = let tk = taken c.in_ok-token.ensures in
    let path = way _ (unary_step _ _ _ c.if-depth-eq0.false ∙ unary_some _ _ tk c.which_unary_op.ensures c.in-Some.is refl) in
    hands c.from_residual-in_err-operand.ensures.1 (fails _ path (undone c.in_err-operand.ensures) refl (omega arith))

pub unop-returns : goal.unop-returns
unop-returns t c = let tk = taken c.in_ok-token.ensures in
    let w = done c.in_ok-operand.ensures in
    let path = way _ (unary_step _ _ _ c.if-depth-eq0.false ∙ unary_some _ _ tk c.which_unary_op.ensures c.in-Some.is c.from.ensures) in
    record { how = made_one 12 w c.emit.ensures (goes _ path w.same) (omega arith) (omega arith) refl }

pub unop-returns-in_err-token : goal.unop-returns-in_err-token
unop-returns-in_err-token t c = hands c.from_residual.ensures.1 (fails_unseen (way _ (unary_step _ _ _ c.if-depth-eq0.false)) (unary_looks _ _ _) c.in_err-token.ensures refl (omega arith))
