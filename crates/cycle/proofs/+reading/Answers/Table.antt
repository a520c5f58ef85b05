-- What is left to show of `cycle::table` in its cycle of calls. Assumes nothing.
use mathlib.Core.Path.{refl, sym, ap, ◌∙◌}
use mathlib.Core.List.{append-nil}
use Prim.Native.Nat.{ℕ, ◌+◌, ◌*◌, ◌-◌}
use native.Mathlib.Omega.{arith}
use lib.ListN.{length, take, drop, length-drop}
use Rattle.tree.specs.Tree.{none, snoc, count, records}
use Rattle.scan.proofs.Laws.{hands, way, here, link, goes, done, undone, taken, shorter, fails, lacks, fails_unseen, found, unfound, gets, prefix}
use Rattle.nodes.proofs.Made.{put, count_snoc, joined}
use Rattle.cycle.proofs.PathsPrimary.{items_looks, items_end, items_more, items_closed, items_again}
use Rattle.cycle.proofs.+reading.Goals as goal

pub table-loop-token-init : goal.table-loop-token-init
unfolding records count
table-loop-token-init t c = record {
  fuel = length (drop c.args.cursor.pos c.args.tokens.now);
  enough = rw length-drop (omega arith);
  run = record { what = none; same = here; moved = omega arith; room = omega arith; text = sym (append-nil (take c.args.cursor.at c.args.store.now)) };
  many = refl;
  short = omega arith;
  kept = refl;
}

pub table-returns-then-token-eq-CLOSE_BRACE : goal.table-returns-then-token-eq-CLOSE_BRACE
table-returns-then-token-eq-CLOSE_BRACE t c = let g = c.loop-token.invariant in
    let gr = g.run in
    let tk = taken c.in_ok-token.ensures in
    let out = link gr.same (way _ (items_end _ gr.what _ g.fuel _ g.enough tk c.if-token-eq-CLOSE_BRACE.true)) in
    let e = c.list_end.ensures in
    record { how = record { what = gr.what; same = out; moved = omega (arith, c.requires, gr.moved, tk.within); room = omega (arith, gr.room, e.next); text = put 1 gr.what (take c.args.cursor.at c.args.store.now) e gr.text (ap (λ (i : ℕ). 1 + 256 * i) (sym g.many)) } }

pub table-returns-in_err-one : goal.table-returns-in_err-one
table-returns-in_err-one t c = let g = c.loop-token.invariant in
    let gr = g.run in
    let tk = taken c.in_ok-token.ensures in
    let on = link gr.same (way _ (items_more _ gr.what _ g.fuel _ g.enough tk c.if-token-eq-CLOSE_BRACE.false)) in
    hands c.from_residual-in_err-one.ensures.1 (fails _ on (undone c.in_err-one.ensures) (prefix gr (omega (arith, c.requires))) (omega (arith, gr.moved, gr.room)))

pub table-returns-then-closing-eq1 : goal.table-returns-then-closing-eq1
table-returns-then-closing-eq1 t c = let g = c.loop-token.invariant in
    let gr = g.run in
    let tk = taken c.in_ok-token.ensures in
    let on = link gr.same (way _ (items_more _ gr.what _ g.fuel _ g.enough tk c.if-token-eq-CLOSE_BRACE.false)) in
    let w = done c.in_ok-one.ensures in
    let next = goes _ on w.same in
    let ie = found c.in_ok-closing.ensures in
    let got = gets _ ie.got next in
    let e = c.list_end-then-closing-eq1.ensures in
    let f = snoc gr.what w.what in
    record {
      how = record {
        what = f;
        same = link got (way _ (items_closed _ _ _ _ _ (ie.is ∙ c.if-closing-eq1.true)));
        moved = omega (arith, gr.moved, w.moved, ie.got.on, ie.got.within);
        room = omega (arith, gr.room, w.room, ie.got.on, e.next);
        text = put 1 f (take c.args.cursor.at c.args.store.now) e (joined gr.what w.what (take c.args.cursor.at c.args.store.now) w.text gr.text) (ap (λ (i : ℕ). 1 + 256 * i) (sym (count_snoc gr.what w.what ∙ ap (λ (i : ℕ). i + 1) g.many)));
      };
    }

pub table-loop-token-preserved : goal.table-loop-token-preserved
table-loop-token-preserved t c = let g = c.loop-token.invariant in
    let gr = g.run in
    let tk = taken c.in_ok-token.ensures in
    let on = link gr.same (way _ (items_more _ gr.what _ g.fuel _ g.enough tk c.if-token-eq-CLOSE_BRACE.false)) in
    let w = done c.in_ok-one.ensures in
    let next = goes _ on w.same in
    let ie = found c.in_ok-closing.ensures in
    let got = gets _ ie.got next in
    record {
      fuel = g.fuel - 1;
      enough = omega (arith, g.enough, w.moved, ie.got.on, tk.within);
      run = record { what = snoc gr.what w.what; same = link got (way _ (items_again _ _ _ _ _ (λ i. c.if-closing-eq1.false (sym ie.is ∙ i)))); moved = omega (arith, gr.moved, w.moved, ie.got.on, ie.got.within); room = omega (arith, gr.room, w.room, ie.got.on); text = joined gr.what w.what (take c.args.cursor.at c.args.store.now) w.text gr.text };
      many = count_snoc gr.what w.what ∙ ap (λ (i : ℕ). i + 1) g.many;
      short = omega (arith, g.short, w.moved, ie.got.on);
      kept = omega (arith, g.kept, c.item.auto.store);
    }

pub table-returns-in_err-closing : goal.table-returns-in_err-closing
table-returns-in_err-closing t c = let g = c.loop-token.invariant in
    let gr = g.run in
    let tk = taken c.in_ok-token.ensures in
    let on = link gr.same (way _ (items_more _ gr.what _ g.fuel _ g.enough tk c.if-token-eq-CLOSE_BRACE.false)) in
    let w = done c.in_ok-one.ensures in
    let next = goes _ on w.same in
    hands c.from_residual-in_err-closing.ensures.1 (lacks _ (unfound c.in_err-closing.ensures) next (shorter _ _ _ _ gr.room.up (prefix w (omega (arith, c.requires, g.kept, gr.moved, gr.room))) ∙ prefix gr (omega (arith, c.requires))) (omega (arith, gr.moved, w.moved)))

pub table-returns-in_err-token : goal.table-returns-in_err-token
table-returns-in_err-token t c = let g = c.loop-token.invariant in
    let gr = g.run in
    hands c.from_residual.ensures.1 (fails_unseen gr.same (items_looks _ gr.what _ _ g.fuel _ g.enough) c.in_err-token.ensures (prefix gr (omega (arith, c.requires))) (omega (arith, gr.moved)))
