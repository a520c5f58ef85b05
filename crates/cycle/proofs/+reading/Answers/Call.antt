-- What is left to show of `cycle::call` in its cycle of calls. Assumes nothing.
use mathlib.Core.Path.{refl}
use native.Mathlib.Omega.{arith}
use Rattle.tree.specs.Tree.{none}
use Rattle.tree.specs.Node
use Rattle.scan.proofs.Laws.{hands, way, here, goes, done, undone, taken, fails, lacks, fails_unseen, passed, unpassed, gets, prefix}
use Rattle.nodes.proofs.Made.{remade}
use Rattle.cycle.proofs.PathsPrimary.{call_looks, call_empty, call_more}
use Rattle.cycle.proofs.Shapes.{given, expr_shape}
use Rattle.cycle.proofs.Writing.{taller, made_added}
use Rattle.cycle.proofs.+reading.Goals as goal

pub call-returns-then-token-eq-CLOSE_PAREN : goal.call-returns-then-token-eq-CLOSE_PAREN
call-returns-then-token-eq-CLOSE_PAREN t c = let tk = taken c.in_ok-token.ensures in
    let e = c.bare_call.ensures in
    record { how = made_added (Node.invoke none) e refl (way _ (call_empty _ _ tk c.if-token-eq-CLOSE_PAREN.true)) (omega arith) (omega (arith, e.up, e.far)) }

pub call-returns-in_err-inner : goal.call-returns-in_err-inner
call-returns-in_err-inner t c = let tk = taken c.in_ok-token.ensures in
    let path = way _ (call_more _ _ tk c.if-token-eq-CLOSE_PAREN.false) in
    hands c.from_residual-in_err-inner.ensures.1 (fails _ path (undone c.in_err-inner.ensures) refl (omega arith))

pub call-returns-in_err-pos : goal.call-returns-in_err-pos
call-returns-in_err-pos t c = let tk = taken c.in_ok-token.ensures in
    let path = way _ (call_more _ _ tk c.if-token-eq-CLOSE_PAREN.false) in
    let w = done c.in_ok-inner.ensures in
    let s1 = goes _ path w.same in
    hands c.from_residual-in_err-pos.ensures.1 (lacks _ (unpassed c.in_err-pos.ensures) s1 (prefix w (omega (arith, c.requires))) (omega (arith, c.requires, w.moved)))

pub call-call_end-requires : goal.call-call_end-requires
call-call_end-requires t c = let tk = taken c.in_ok-token.ensures in
    let w = done c.in_ok-inner.ensures in
    let y = passed c.in_ok-pos.ensures in
    let yo = y.on in
    let yw = y.within in
    let h = taller w (omega (arith, c.requires)) in
    omega (arith, c.requires, h, w.moved, w.room, yo, yw, c.expr.auto.store)

pub call-returns : goal.call-returns
call-returns t c = let tk = taken c.in_ok-token.ensures in
    let path = way _ (call_more _ _ tk c.if-token-eq-CLOSE_PAREN.false) in
    let w = done c.in_ok-inner.ensures in
    let s1 = goes _ path w.same in
    let y = passed c.in_ok-pos.ensures in
    let yo = y.on in
    let yw = y.within in
    let e = c.call_end.ensures in
    record { how = remade w e (given (expr_shape _ _ _) w.same) (gets _ y s1) (omega (arith, c.requires, w.moved, yo, yw)) (omega (arith, c.requires, w.moved, w.room, yo, yw, e.up, e.far)) }

pub call-returns-in_err-token : goal.call-returns-in_err-token
call-returns-in_err-token t c = hands c.from_residual.ensures.1 (fails_unseen here (call_looks _ _ _) c.in_err-token.ensures refl (omega arith))
