-- What is left to show of `cycle::val` in its cycle of calls. Assumes nothing.
use mathlib.Core.Path.{refl, sym, ◌∙◌}
use native.Mathlib.Omega.{arith}
use Rattle.scan.proofs.Laws.{hands, way, here, taken, fails_unseen, later}
use Rattle.nodes.proofs.Made.{made_none}
use Rattle.cycle.proofs.PathsControl.{value_looks, value_none, value_some}
use Rattle.cycle.proofs.+reading.Goals as goal

pub val-returns-then-ends_control : goal.val-returns-then-ends_control
val-returns-then-ends_control t c = let tk = taken c.in_ok-token.ensures in
    record { how = made_none 0 c.emit.ensures (way _ (value_none _ _ tk (sym c.ends_control.ensures ∙ c.if-ends_control.true))) (omega arith) (omega arith) refl }

pub val-returns : goal.val-returns
val-returns t c = let tk = taken c.in_ok-token.ensures in
    later (value_some _ _ tk (sym c.ends_control.ensures ∙ c.if-ends_control.false)) c.expr.ensures (omega arith) (omega arith) (omega arith)

pub val-returns-in_err-token : goal.val-returns-in_err-token
val-returns-in_err-token t c = hands c.from_residual.ensures.1 (fails_unseen here (value_looks _ _ _) c.in_err-token.ensures refl (omega arith))
