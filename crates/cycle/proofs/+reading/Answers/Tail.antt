-- What is left to show of `cycle::tail` in its cycle of calls. Assumes nothing.
use mathlib.Core.Path.{refl, sym}
use mathlib.Core.List.{append-nil}
use Prim.Native.Nat.{◌-◌}
use native.Mathlib.Omega.{arith}
use lib.ListN.{length, take, drop, length-drop}
use Rattle.tree.specs.Tree.{none, snoc, count, records}
use Rattle.scan.proofs.Laws.{hands, way, here, link, goes, done, undone, taken, fails, fails_unseen, prefix}
use Rattle.nodes.proofs.Made.{count_snoc, joined, remade}
use Rattle.cycle.proofs.PathsExpr.{tail_looks, tail_end, tail_comma, tail_last, tail_more}
use Rattle.cycle.proofs.+reading.Goals as goal

pub tail-loop-token-init : goal.tail-loop-token-init
unfolding records count
tail-loop-token-init t c = record {
  fuel = length (drop c.args.cursor.pos c.args.tokens.now);
  enough = rw length-drop (omega arith);
  run = record { what = none; same = here; moved = omega arith; room = omega arith; text = sym (append-nil (take c.args.cursor.at c.args.store.now)) };
  many = refl;
  few = omega arith;
  kept = refl;
}

pub tail-returns-then-token-ne-COMMA : goal.tail-returns-then-token-ne-COMMA
tail-returns-then-token-ne-COMMA t c = let i = c.loop-token.invariant in
    let g = i.run in
    let tk = taken c.in_ok-token.ensures in
    let e = c.tuple_end.ensures in
    record { how = remade g e i.many (link g.same (way _ (tail_end _ g.what _ i.fuel _ i.enough tk c.if-token-ne-COMMA.true))) g.moved (omega (arith, c.requires, g.moved, g.room, e.up, e.far)) }

pub tail-returns-then-other-eq-CLOSE_PAREN : goal.tail-returns-then-other-eq-CLOSE_PAREN
tail-returns-then-other-eq-CLOSE_PAREN t c = let i = c.loop-token.invariant in
    let g = i.run in
    let tk = taken c.in_ok-token.ensures in
    let tn = taken c.in_ok-other.ensures in
    let e = c.tuple_end-then-other-eq-CLOSE_PAREN.ensures in
    record { how = remade g e i.many (link g.same (way _ (tail_last _ g.what _ i.fuel _ i.enough tk c.if-token-ne-COMMA.false tn c.if-other-eq-CLOSE_PAREN.true))) (omega (arith, c.requires, g.moved, tk.within)) (omega (arith, c.requires, g.moved, g.room, e.up, e.far)) }

pub tail-returns-in_err-end : goal.tail-returns-in_err-end
tail-returns-in_err-end t c = let i = c.loop-token.invariant in
    let g = i.run in
    let tk = taken c.in_ok-token.ensures in
    let tn = taken c.in_ok-other.ensures in
    hands c.from_residual-in_err-end.ensures.1 (fails _ (link g.same (way _ (tail_more _ g.what _ i.fuel _ i.enough tk c.if-token-ne-COMMA.false tn c.if-other-eq-CLOSE_PAREN.false))) (undone c.in_err-end.ensures) (prefix g (omega (arith, c.requires))) (omega (arith, c.requires, g.moved, g.room, tk.within)))

pub tail-loop-token-preserved : goal.tail-loop-token-preserved
tail-loop-token-preserved t c = let i = c.loop-token.invariant in
    let g = i.run in
    let tk = taken c.in_ok-token.ensures in
    let tn = taken c.in_ok-other.ensures in
    let w = done c.in_ok-end.ensures in
    record {
      fuel = i.fuel - 1;
      enough = omega arith;
      run = record { what = snoc g.what w.what; same = goes _ (link g.same (way _ (tail_more _ g.what _ i.fuel _ i.enough tk c.if-token-ne-COMMA.false tn c.if-other-eq-CLOSE_PAREN.false))) w.same; moved = omega arith; room = omega arith; text = joined g.what w.what (take c.args.cursor.at c.args.store.now) w.text g.text };
      many = omega (arith, count_snoc g.what w.what, i.many);
      few = omega arith;
      kept = omega arith;
    }

pub tail-returns-in_err-other : goal.tail-returns-in_err-other
tail-returns-in_err-other t c = let i = c.loop-token.invariant in
    let g = i.run in
    let tk = taken c.in_ok-token.ensures in
    hands c.from_residual-in_err-other.ensures.1 (fails_unseen (link g.same (way _ (tail_comma _ g.what _ i.fuel _ i.enough tk c.if-token-ne-COMMA.false))) (record { go = _; is = refl }) c.in_err-other.ensures (prefix g (omega arith)) (omega arith))

pub tail-returns-in_err-token : goal.tail-returns-in_err-token
tail-returns-in_err-token t c = let i = c.loop-token.invariant in
    let g = i.run in
    hands c.from_residual.ensures.1 (fails_unseen g.same (tail_looks _ g.what _ _ i.fuel _ i.enough) c.in_err-token.ensures (prefix g (omega arith)) (omega arith))
