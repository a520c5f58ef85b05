-- What is left to show of `cycle::group` in its cycle of calls. Assumes nothing.
use mathlib.Core.Path.{refl}
use native.Mathlib.Omega.{arith}
use Rattle.scan.proofs.Laws.{hands, way, here, goes, done, undone, taken, fails, lacks, fails_unseen, passed, unpassed, found, unfound, gets, prefix}
use Rattle.nodes.proofs.Made.{made_none, remade}
use Rattle.cycle.proofs.PathsPrimary.{group_looks, group_empty, group_more}
use Rattle.cycle.proofs.Shapes.{given, shape_small, expr_shape}
use Rattle.cycle.proofs.Writing.{told, taller}
use Rattle.cycle.proofs.+reading.Goals as goal

pub group-returns-then-token-eq-CLOSE_PAREN : goal.group-returns-then-token-eq-CLOSE_PAREN
group-returns-then-token-eq-CLOSE_PAREN t c = let tk = taken c.in_ok-token.ensures in
    record { how = made_none 30 c.emit.ensures (way _ (group_empty _ _ tk c.if-token-eq-CLOSE_PAREN.true)) (omega arith) (omega arith) refl }

pub group-returns-in_err-inner : goal.group-returns-in_err-inner
group-returns-in_err-inner t c = let tk = taken c.in_ok-token.ensures in
    let x = found c.in_ok-modifier.ensures in
    let xo = x.got.on in
    let xw = x.got.within in
    let path = way _ (group_more _ _ tk c.if-token-eq-CLOSE_PAREN.false) in
    let s0 = told _ x path in
    hands c.from_residual-in_err-inner.ensures.1 (fails _ s0 (undone c.in_err-inner.ensures) refl (omega arith))

pub group-returns-in_err-pos : goal.group-returns-in_err-pos
group-returns-in_err-pos t c = let tk = taken c.in_ok-token.ensures in
    let x = found c.in_ok-modifier.ensures in
    let xo = x.got.on in
    let xw = x.got.within in
    let path = way _ (group_more _ _ tk c.if-token-eq-CLOSE_PAREN.false) in
    let s0 = told _ x path in
    let w = done c.in_ok-inner.ensures in
    let s1 = goes _ s0 w.same in
    hands c.from_residual-in_err-pos.ensures.1 (lacks _ (unpassed c.in_err-pos.ensures) s1 (prefix w (omega (arith, c.requires))) (omega (arith, c.requires, w.moved, xo)))

pub group-group_end-requires : goal.group-group_end-requires
group-group_end-requires t c = let tk = taken c.in_ok-token.ensures in
    let x = found c.in_ok-modifier.ensures in
    let xo = x.got.on in
    let xw = x.got.within in
    let w = done c.in_ok-inner.ensures in
    let y = passed c.in_ok-pos.ensures in
    let yo = y.on in
    let yw = y.within in
    let h = taller w (omega (arith, c.requires)) in
    omega (arith, c.requires, h, w.moved, w.room, xo, yo, yw, c.expr.auto.store)

pub group-returns : goal.group-returns
group-returns t c = let tk = taken c.in_ok-token.ensures in
    let x = found c.in_ok-modifier.ensures in
    let xo = x.got.on in
    let xw = x.got.within in
    let path = way _ (group_more _ _ tk c.if-token-eq-CLOSE_PAREN.false) in
    let s0 = told _ x path in
    let w = done c.in_ok-inner.ensures in
    let s1 = goes _ s0 w.same in
    let y = passed c.in_ok-pos.ensures in
    let yo = y.on in
    let yw = y.within in
    let e = c.group_end.ensures in
    record { how = remade w e (shape_small (given (expr_shape _ _ _) w.same)) (gets _ y s1) (omega (arith, c.requires, w.moved, xo, yo, yw)) (omega (arith, c.requires, w.moved, w.room, xo, yo, yw, e.up, e.far)) }

pub group-returns-in_err-modifier : goal.group-returns-in_err-modifier
group-returns-in_err-modifier t c = let tk = taken c.in_ok-token.ensures in
    let path = way _ (group_more _ _ tk c.if-token-eq-CLOSE_PAREN.false) in
    hands c.from_residual-in_err-modifier.ensures.1 (lacks _ (unfound c.in_err-modifier.ensures) path refl (omega arith))

pub group-returns-in_err-token : goal.group-returns-in_err-token
group-returns-in_err-token t c = hands c.from_residual.ensures.1 (fails_unseen here (group_looks _ _ _) c.in_err-token.ensures refl (omega arith))
