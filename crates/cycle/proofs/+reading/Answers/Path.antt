-- What is left to show of `cycle::path` in its cycle of calls. Assumes nothing.
use mathlib.Core.Path.{refl, sym, ap, ◌∙◌}
use mathlib.Core.List.{append-nil}
use Prim.Native.Nat.{ℕ, ◌+◌, ◌-◌}
use native.Mathlib.Omega.{arith}
use lib.ListN.{length, take, drop, length-drop}
use Rattle.tree.specs.Tree.{none, snoc, count, records}
use Rattle.scan.proofs.Laws.{hands, way, here, link, goes, done, undone, taken, fails, fails_unseen, prefix}
use Rattle.nodes.proofs.Made.{count_snoc, joined}
use Rattle.cycle.proofs.PathsPrimary.{path_looks, path_ends, path_more, path_far}
use Rattle.cycle.proofs.+reading.Goals as goal

pub path-loop-token-init : goal.path-loop-token-init
unfolding records count
path-loop-token-init t c = record {
  fuel = length (drop c.args.cursor.pos c.args.tokens.now);
  enough = rw length-drop (omega arith);
  run = record { what = none; same = here; moved = omega arith; room = omega arith; text = sym (append-nil (take c.args.cursor.at c.args.store.now)) };
  many = refl;
  short = omega arith;
  spare = omega arith;
  kept = refl;
}

pub path-returns-then-not-continues : goal.path-returns-then-not-continues
path-returns-then-not-continues t c = let g = c.loop-token.invariant in
    let gr = g.run in
    let tk = taken c.in_ok-token.ensures in
    let out = link gr.same (way _ (path_ends _ _ gr.what _ g.fuel _ g.enough tk (sym c.continues.ensures ∙ c.if-not-continues.true))) in
    let e = c.path_end.ensures in
    let Z = take c.args.cursor.at c.args.store.now in
    let x = e.text Z gr.what g.many gr.text in
    let far = path_far gr.what _ _ Z _ _ gr.text x (omega (arith, c.requires, g.kept, gr.moved, gr.room, tk.within)) (omega (arith, c.requires, g.kept, gr.moved, gr.room, tk.within, e.far, c.path_end.auto.store)) e.far in
    record { how = record { what = gr.what; same = out; moved = gr.moved; room = omega (arith, g.spare, g.many, gr.room, e.up, far); text = x } }

pub path-loop-token-preserved : goal.path-loop-token-preserved
path-loop-token-preserved t c = let g = c.loop-token.invariant in
    let gr = g.run in
    let tk = taken c.in_ok-token.ensures in
    let on = link gr.same (way _ (path_more _ _ gr.what _ g.fuel _ g.enough tk (sym c.continues.ensures ∙ c.if-not-continues.false))) in
    let w = done c.in_ok-end.ensures in
    record {
      fuel = g.fuel - 1;
      enough = omega (arith, g.enough, w.moved, tk.within);
      run = record { what = snoc gr.what w.what; same = goes _ on w.same; moved = omega (arith, gr.moved, w.moved); room = omega (arith, gr.room, w.room); text = joined gr.what w.what (take c.args.cursor.at c.args.store.now) w.text gr.text };
      many = count_snoc gr.what w.what ∙ ap (λ (i : ℕ). i + 1) g.many;
      short = omega (arith, g.short, w.moved);
      spare = omega (arith, g.spare, w.room);
      kept = omega (arith, g.kept, c.part.auto.store);
    }

pub path-returns-in_err-end : goal.path-returns-in_err-end
path-returns-in_err-end t c = let g = c.loop-token.invariant in
    let gr = g.run in
    let tk = taken c.in_ok-token.ensures in
    let on = link gr.same (way _ (path_more _ _ gr.what _ g.fuel _ g.enough tk (sym c.continues.ensures ∙ c.if-not-continues.false))) in
    hands c.from_residual-in_err-end.ensures.1 (fails _ on (undone c.in_err-end.ensures) (prefix gr (omega (arith, c.requires))) (omega (arith, gr.moved, gr.room)))

pub path-returns-in_err-token : goal.path-returns-in_err-token
path-returns-in_err-token t c = let g = c.loop-token.invariant in
    let gr = g.run in
    hands c.from_residual.ensures.1 (fails_unseen gr.same (path_looks _ _ gr.what _ _ g.fuel _ g.enough) c.in_err-token.ensures (prefix gr (omega (arith, c.requires))) (omega (arith, gr.moved)))
