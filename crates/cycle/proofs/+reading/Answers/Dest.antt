-- What is left to show of `cycle::dest` in its cycle of calls. Assumes nothing.
use mathlib.Core.Path.{refl, ◌∙◌}
use native.Mathlib.Omega.{arith}
use Rattle.scan.proofs.Laws.{hands, way, goes, done, undone, shorter, fails, prefix}
use Rattle.cycle.proofs.PathsFunction.{target_step, target_stands}
use Rattle.cycle.proofs.Writing.{written}
use Rattle.grammar.specs.Reading.Primary.{with_path}
use Rattle.cycle.proofs.+reading.Goals as goal

pub dest-returns-in_err-receiver : goal.dest-returns-in_err-receiver
dest-returns-in_err-receiver t c = let path = way _ (target_step _ _ _) in
    hands c.from_residual.ensures.1 (fails _ path (undone c.in_err-receiver.ensures) refl (omega (arith, c.requires)))

pub dest-returns-in_err-target : goal.dest-returns-in_err-target
dest-returns-in_err-target t c = let g = done c.in_ok-receiver.ensures in
    let path = way _ (target_step _ _ _) in
    let on = goes _ path g.same in
    hands c.from_residual-in_err-target.ensures.1 (fails _ on (undone c.in_err-target.ensures) (prefix g (omega (arith, c.requires))) (omega (arith, c.requires)))

pub dest-expect_pattern-requires : goal.dest-expect_pattern-requires
dest-expect_pattern-requires t c = let g = done c.in_ok-receiver.ensures in
    let h = done c.in_ok-target.ensures in
    record { tree = with_path g.what h.what; whole = target_stands c.args.depth g h (omega (arith, c.requires)) (omega (arith, c.requires)) (omega (arith, c.requires)) }

pub dest-returns : goal.dest-returns
dest-returns t c = let g = done c.in_ok-receiver.ensures in
    let h = done c.in_ok-target.ensures in
    let path = way _ (target_step _ _ _) in
    let on = goes _ path g.same in
    let wh = target_stands c.args.depth g h (omega (arith, c.requires)) (omega (arith, c.requires)) (omega (arith, c.requires)) in
    let at = c.args.cursor.at in
    let before = shorter _ _ at _ g.room.up (prefix h (omega (arith, c.requires))) ∙ prefix g (omega (arith, c.requires)) in
    written (c.expect_pattern.ensures (with_path g.what h.what) c.args.tokens.now wh h.moved.within) before (goes _ on h.same) before (omega (arith, c.requires, g.moved, g.room, h.moved, h.room))
