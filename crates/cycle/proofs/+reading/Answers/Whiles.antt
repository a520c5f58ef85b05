-- What is left to show of `cycle::whiles` in its cycle of calls. Assumes nothing.
use mathlib.Core.Path.{refl}
use native.Mathlib.Omega.{arith}
use Rattle.tree.specs.Tree.{records}
use Rattle.scan.proofs.Laws.{hands, way, goes, done, undone, fails, lacks, passed, unpassed, gets, prefix}
use Rattle.cycle.proofs.PathsBody.{closable, under, unlisted}
use Rattle.cycle.proofs.PathsStmt.{whiles_step}
use Rattle.cycle.proofs.+reading.Goals as goal

pub whiles-returns-in_err-over : goal.whiles-returns-in_err-over
whiles-returns-in_err-over t c = let path = way _ (whiles_step _ _ _) in
    hands c.from_residual.ensures.1 (fails _ path (undone c.in_err-over.ensures) refl (omega arith))

pub whiles-returns-in_err-pos : goal.whiles-returns-in_err-pos
whiles-returns-in_err-pos t c = let w = done c.in_ok-over.ensures in
    let path = way _ (whiles_step _ _ _) in
    let on = goes _ path w.same in
    hands c.from_residual-in_err-pos.ensures.1 (lacks _ (unpassed c.in_err-pos.ensures) on (prefix w (omega arith)) (omega arith))

pub whiles-list_under-requires : goal.whiles-list_under-requires
whiles-list_under-requires t c = let w = done c.in_ok-over.ensures in
    let ps = passed c.in_ok-pos.ensures in
    let gon = ps.on in
    let gwithin = ps.within in
    closable _ c.in_ok-statements.ensures (omega (arith, c.requires, w.moved, w.room, gon, gwithin, c.expr.auto.store, c.body.auto.store))

pub whiles-returns-in_err-statements : goal.whiles-returns-in_err-statements
whiles-returns-in_err-statements t c = let w = done c.in_ok-over.ensures in
    let path = way _ (whiles_step _ _ _) in
    let on = goes _ path w.same in
    let ps = passed c.in_ok-pos.ensures in
    let gon = ps.on in
    let gwithin = ps.within in
    hands c.from_residual-in_err-statements.ensures.1 (unlisted _ c.in_err-statements.ensures (gets _ ps on) (prefix w (omega (arith, c.requires, w.moved, w.room, gon, gwithin, c.expr.auto.store))) (omega (arith, c.requires, w.moved, w.room, gon, gwithin)))

pub whiles-returns : goal.whiles-returns
whiles-returns t c = let w = done c.in_ok-over.ensures in
    let path = way _ (whiles_step _ _ _) in
    let on = goes _ path w.same in
    let ps = passed c.in_ok-pos.ensures in
    let gon = ps.on in
    let gwithin = ps.within in
    under (λ s. record { over = w.what; run = s }) (records w.what) c.in_ok-statements.ensures c.list_under.ensures (gets _ ps on) w.text (λ s. refl) (omega (arith, c.requires, w.moved, w.room, gon, gwithin, c.expr.auto.store))
