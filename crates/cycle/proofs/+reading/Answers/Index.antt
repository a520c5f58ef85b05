-- What is left to show of `cycle::index` in its cycle of calls. Assumes nothing.
use mathlib.Core.Path.{refl}
use native.Mathlib.Omega.{arith}
use Rattle.scan.proofs.Laws.{hands, way, goes, done, undone, fails, lacks, passed, unpassed, gets, prefix, relabel}
use Rattle.cycle.proofs.PathsPrimary.{index_step}
use Rattle.cycle.proofs.+reading.Goals as goal

pub index-returns-in_err-inner : goal.index-returns-in_err-inner
index-returns-in_err-inner t c = hands c.from_residual.ensures.1 (fails _ (way _ (index_step _ _ _)) (undone c.in_err-inner.ensures) refl (omega arith))

pub index-returns-in_err-pos : goal.index-returns-in_err-pos
index-returns-in_err-pos t c = let w = done c.in_ok-inner.ensures in
    let on = goes _ (way _ (index_step _ _ _)) w.same in
    hands c.from_residual-in_err-pos.ensures.1 (lacks _ (unpassed c.in_err-pos.ensures) on (prefix w (omega (arith, c.requires))) (omega (arith, c.requires, w.moved)))

pub index-returns : goal.index-returns
index-returns t c = let w = done c.in_ok-inner.ensures in
    let on = goes _ (way _ (index_step _ _ _)) w.same in
    let y = passed c.in_ok-pos.ensures in
    let yo = y.on in
    let yw = y.within in
    record { how = relabel w w.what refl (gets _ y on) (omega (arith, c.requires, w.moved, yo, yw)) (omega (arith, c.requires, w.moved, w.room, yo, yw)) }
