-- What is left to show of `cycle::binop` in its cycle of calls. Assumes nothing.
use mathlib.Core.Path.{refl, ◌∙◌}
use Prim.Native.Nat.{◌-◌}
use native.Mathlib.Omega.{arith}
use lib.ListN.{length, drop, length-drop}
use Rattle.operator.specs.Laws.{precedence_least}
use Rattle.scan.proofs.Laws.{hands, way, here, link, goes, done, undone, taken, fails, fails_unseen, as_agrees, prefix, rebased, relabel, home}
use Rattle.nodes.proofs.Made.{made_two}
use Rattle.cycle.proofs.Climb.{binop_step, climb_looks, climb_none, climb_ends, climb_takes}
use Rattle.cycle.proofs.PathsExpr.{binop_unary}
use Rattle.cycle.proofs.+reading.Goals as goal

pub binop-returns-then-level-eq-PRECEDENCE_END : goal.binop-returns-then-level-eq-PRECEDENCE_END
binop-returns-then-level-eq-PRECEDENCE_END t c = as_agrees (binop_unary _ _ _ _ c.if-level-eq-PRECEDENCE_END.true) c.unop.ensures

pub binop-returns-in_err-left : goal.binop-returns-in_err-left
binop-returns-in_err-left t c = hands c.from_residual.ensures.1 (fails _ (way _ (binop_step _ _ _ _ c.if-level-eq-PRECEDENCE_END.false)) (undone c.in_err-left.ensures) refl (omega arith))

pub binop-loop-token-init : goal.binop-loop-token-init
binop-loop-token-init t c = let f = done c.in_ok-left.ensures in
    record {
      fuel = length (drop c.in_ok-left.left.pos c.args.tokens.now);
      enough = rw length-drop (omega arith);
      run = λ t x. record { what = t; same = here; moved = omega arith; room = f.room; text = x };
      kept = refl;
    }

pub binop-look-requires : goal.binop-look-requires
binop-look-requires t c = let f = done c.in_ok-left.ensures in
    let i = c.loop-token.invariant in
    let g = i.run f.what (rebased f (omega (arith, c.requires))) in
    g.moved.within

pub binop-returns-in_default : goal.binop-returns-in_default
binop-returns-in_default t c = let f = done c.in_ok-left.ensures in
    let path = goes _ (way _ (binop_step _ _ _ _ c.if-level-eq-PRECEDENCE_END.false)) f.same in
    let i = c.loop-token.invariant in
    let g = i.run f.what (rebased f (omega (arith, c.requires))) in
    let tk = taken c.in_ok-token.ensures in
    record { how = home path (prefix f (omega arith)) f.moved.more (relabel g g.what refl (link g.same (way _ (climb_none _ _ g.what _ i.fuel _ i.enough tk c.which_binary_op.ensures c.in_default.not-Some))) g.moved g.room) }

pub binop-returns-then-level-l : goal.binop-returns-then-level-l
binop-returns-then-level-l t c = let f = done c.in_ok-left.ensures in
    let path = goes _ (way _ (binop_step _ _ _ _ c.if-level-eq-PRECEDENCE_END.false)) f.same in
    let i = c.loop-token.invariant in
    let g = i.run f.what (rebased f (omega (arith, c.requires))) in
    let tk = taken c.in_ok-token.ensures in
    record { how = home path (prefix f (omega arith)) f.moved.more (relabel g g.what refl (link g.same (way _ (climb_ends _ _ g.what _ i.fuel _ i.enough tk c.which_binary_op.ensures c.in-Some.is c.precedence_level-l.ensures c.if-level-l.true))) g.moved g.room) }

pub binop-binop-requires : goal.binop-binop-requires
binop-binop-requires t c = let f = done c.in_ok-left.ensures in
    let i = c.loop-token.invariant in
    let g = i.run f.what (rebased f (omega (arith, c.requires))) in
    let tk = taken c.in_ok-token.ensures in
    let n = precedence_least c.in-Some.op in
    let m = c.if-level-l.false in
    omega (arith, c.requires)

pub binop-emit-requires : goal.binop-emit-requires
binop-emit-requires t c = let f = done c.in_ok-left.ensures in
    let i = c.loop-token.invariant in
    let g = i.run f.what (rebased f (omega (arith, c.requires))) in
    let tk = taken c.in_ok-token.ensures in
    let w = done c.in_ok-right.ensures in
    omega (arith, c.requires, c.unop-2.auto.store, f.moved, f.room, g.moved, g.room, i.kept, tk.within, w.moved, w.room, c.binop.auto.store)

pub binop-loop-token-preserved : goal.binop-loop-token-preserved
binop-loop-token-preserved t c = let f = done c.in_ok-left.ensures in
    let i = c.loop-token.invariant in
    let tk = taken c.in_ok-token.ensures in
    let w = done c.in_ok-right.ensures in
    let e = c.emit.ensures in
    record {
      fuel = i.fuel - 1;
      enough = omega arith;
      run = λ u x. let g = i.run u x in made_two 13 g w e (goes _ (link g.same (way _ (climb_takes _ _ g.what _ i.fuel _ i.enough tk c.which_binary_op.ensures c.in-Some.is c.precedence_level-l.ensures c.if-level-l.false c.from.ensures))) w.same) (omega arith) (omega arith) refl;
      kept = omega arith;
    }

pub binop-returns-in_err-right : goal.binop-returns-in_err-right
binop-returns-in_err-right t c = let f = done c.in_ok-left.ensures in
    let path = goes _ (way _ (binop_step _ _ _ _ c.if-level-eq-PRECEDENCE_END.false)) f.same in
    let i = c.loop-token.invariant in
    let g = i.run f.what (rebased f (omega (arith, c.requires))) in
    let tk = taken c.in_ok-token.ensures in
    let on = link g.same (way _ (climb_takes _ _ g.what _ i.fuel _ i.enough tk c.which_binary_op.ensures c.in-Some.is c.precedence_level-l.ensures c.if-level-l.false refl)) in
    hands c.from_residual-in_err-right.ensures.1 (fails _ (link path on) (undone c.in_err-right.ensures) (prefix g (omega (arith, c.requires, c.unop-2.auto.store, f.moved, f.room, g.moved, g.room, tk.within)) ∙ prefix f (omega (arith, c.requires, c.unop-2.auto.store, f.moved, f.room, g.moved, g.room, tk.within))) (omega (arith, c.requires, c.unop-2.auto.store, f.moved, f.room, g.moved, g.room, tk.within)))

pub binop-returns-in_err-token : goal.binop-returns-in_err-token
binop-returns-in_err-token t c = let f = done c.in_ok-left.ensures in
    let path = goes _ (way _ (binop_step _ _ _ _ c.if-level-eq-PRECEDENCE_END.false)) f.same in
    let i = c.loop-token.invariant in
    let g = i.run f.what (rebased f (omega (arith, c.requires))) in
    hands c.from_residual-in_err-token.ensures.1 (fails_unseen (link path g.same) (climb_looks _ _ g.what _ _ i.fuel _ i.enough) c.in_err-token.ensures (prefix g (omega arith) ∙ prefix f (omega arith)) (omega arith))
