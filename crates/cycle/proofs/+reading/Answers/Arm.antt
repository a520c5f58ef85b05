-- What is left to show of `cycle::arm` in its cycle of calls. Assumes nothing.
use mathlib.Core.Path.{refl}
use native.Mathlib.Omega.{arith}
use Rattle.tree.specs.Tree.{records}
use Rattle.tree.specs.Node
use Rattle.scan.proofs.Laws.{hands, way, goes, done, undone, fails, lacks, passed, unpassed, gets, prefix}
use Rattle.nodes.proofs.Made.{over_two}
use Rattle.cycle.proofs.PathsBody.{closable, under, unlisted}
use Rattle.cycle.proofs.PathsCond.{arm_step}
use Rattle.grammar.specs.Reading.Block.{block_of}
use Rattle.cycle.proofs.+reading.Goals as goal

pub arm-returns-in_err-condition : goal.arm-returns-in_err-condition
arm-returns-in_err-condition t c = let path = way _ (arm_step _ _ _) in
    hands c.from_residual.ensures.1 (fails _ path (undone c.in_err-condition.ensures) refl (omega arith))

pub arm-returns-in_err-pos : goal.arm-returns-in_err-pos
arm-returns-in_err-pos t c = let w = done c.in_ok-condition.ensures in
    let path = way _ (arm_step _ _ _) in
    let on = goes _ path w.same in
    hands c.from_residual-in_err-pos.ensures.1 (lacks _ (unpassed c.in_err-pos.ensures) on (prefix w (omega arith)) (omega arith))

pub arm-block_under-requires : goal.arm-block_under-requires
arm-block_under-requires t c = let w = done c.in_ok-condition.ensures in
    let ps = passed c.in_ok-pos.ensures in
    let gon = ps.on in
    let gwithin = ps.within in
    closable _ c.in_ok-statements.ensures (omega (arith, c.requires, w.moved, w.room, gon, gwithin, c.expr.auto.store, c.list.auto.store))

pub arm-returns-in_err-statements : goal.arm-returns-in_err-statements
arm-returns-in_err-statements t c = let w = done c.in_ok-condition.ensures in
    let path = way _ (arm_step _ _ _) in
    let on = goes _ path w.same in
    let ps = passed c.in_ok-pos.ensures in
    let gon = ps.on in
    let gwithin = ps.within in
    hands c.from_residual-in_err-statements.ensures.1 (unlisted _ c.in_err-statements.ensures (gets _ ps on) (prefix w (omega (arith, c.requires, w.moved, w.room, gon, gwithin, c.expr.auto.store))) (omega (arith, c.requires, w.moved, w.room, gon, gwithin)))

pub arm-returns : goal.arm-returns
arm-returns t c = let w = done c.in_ok-condition.ensures in
    let path = way _ (arm_step _ _ _) in
    let on = goes _ path w.same in
    let ps = passed c.in_ok-pos.ensures in
    let gon = ps.on in
    let gwithin = ps.within in
    under (λ s. Node.conditional_branch w.what (block_of s)) (records w.what) c.in_ok-statements.ensures c.block_under.ensures (gets _ ps on) w.text (λ s. over_two 23 _ _ _) (omega (arith, c.requires, w.moved, w.room, gon, gwithin, c.expr.auto.store))
