-- What is left to show of `cycle::list` in its cycle of calls. Assumes nothing.
use mathlib.Core.Path.{refl, sym, ap, ◌∙◌}
use mathlib.Core.List.{append-nil}
use Prim.Native.Nat.{ℕ, ◌+◌, ◌-◌}
use native.Mathlib.Omega.{arith}
use lib.ListN.{length, take, drop, length-drop}
use Rattle.tree.specs.Tree.{none, snoc, count, records, all_records}
use Rattle.tree.specs.Node
use Rattle.scan.proofs.Laws.{handed, way, link, ends, goes, taken, fails, fails_unseen, prefix, relabel}
use Rattle.scan.proofs.Text.{grown}
use Rattle.nodes.proofs.Made.{count_snoc, joined}
use Rattle.cycle.proofs.PathsExpr.{list_stops, list_step}
use Rattle.cycle.proofs.PathsList.{stmts_looks, stmts_semi, stmts_end, stmts_turn, was_stmt, was_control, was_caught, was_not, place_small, split_none, next_ends, held_text}
use Rattle.cycle.proofs.Writing.{taller}
use Rattle.nodes.specs.Lists.{keeps}
use Rattle.cycle.proofs.+reading.Goals as goal

pub list-returns-then-depth-eq0 : goal.list-returns-then-depth-eq0
list-returns-then-depth-eq0 t c = record { how = record { how = ends (list_stops _ _ _ _ c.if-depth-eq0.true) } }

pub list-loop-token-init : goal.list-loop-token-init
unfolding records count
list-loop-token-init t c = record { fuel = length (drop c.args.cursor.pos c.args.tokens.now); enough = rw length-drop (omega arith); run = record { what = none; same = way _ (list_step _ _ _ _ c.if-depth-eq0.false); moved = omega arith; room = omega arith; text = sym (append-nil (take c.args.cursor.at c.args.store.now)) }; many = refl; short = omega arith; ending = keeps split_none refl; kept = refl }

pub list-loop-token-preserved-then-token-eq-SEMICOLON : goal.list-loop-token-preserved-then-token-eq-SEMICOLON
list-loop-token-preserved-then-token-eq-SEMICOLON t c = let g = c.loop-token.invariant in
    let gr = g.run in
    let tk = taken c.in_ok-token.ensures in
    record {
      fuel = g.fuel - 1;
      enough = omega arith;
      run = relabel gr gr.what refl (link gr.same (way _ (stmts_semi _ _ gr.what _ g.fuel _ g.enough tk c.if-token-eq-SEMICOLON.true))) (omega arith) (omega arith);
      many = g.many;
      short = omega arith;
      ending = g.ending;
      kept = g.kept;
    }

pub list-returns-then-ends : goal.list-returns-then-ends
list-returns-then-ends t c = let g = c.loop-token.invariant in
    let gr = g.run in
    let tk = taken c.in_ok-token.ensures in
    record {
      how = record {
        run = relabel gr (record { suite = gr.what; control = Node.absent }) refl (link gr.same (way _ (stmts_end _ _ gr.what _ g.fuel _ g.enough tk c.if-token-eq-SEMICOLON.false (sym c.ends.ensures ∙ c.if-ends.true)))) gr.moved gr.room;
        plain = refl;
        many = g.many;
        short = g.short;
        ends = g.ending;
      };
    }

pub list-mark-suite-requires : goal.list-mark-suite-requires
list-mark-suite-requires t c = let g = c.loop-token.invariant in
    let gr = g.run in
    let tk = taken c.in_ok-token.ensures in
    let w1 = was_stmt c.in-Stmt.is c.in_ok-next.ensures in
    let l = taller w1 (omega (arith, c.requires, g.kept, gr.moved, gr.room)) in
    (omega arith, omega (arith, c.requires, g.kept, gr.moved, gr.room, w1.moved, w1.room))

pub list-loop-token-preserved-in-Stmt : goal.list-loop-token-preserved-in-Stmt
list-loop-token-preserved-in-Stmt t c = let g = c.loop-token.invariant in
    let gr = g.run in
    let tk = taken c.in_ok-token.ensures in
    let try = link gr.same (way _ (stmts_turn _ _ gr.what _ g.fuel _ g.enough tk c.if-token-eq-SEMICOLON.false (sym c.ends.ensures ∙ c.if-ends.false))) in
    let w1 = was_stmt c.in-Stmt.is c.in_ok-next.ensures in
    let mk = c.mark-suite.ensures (take c.loop-token.suite.end.at c.loop-token.store) w1.what (place_small _ _ _ _ _ _ w1.same) w1.text in
    let room = w1.room in
    let old = gr.room in
    let moved = w1.moved in
    record {
      fuel = g.fuel - 1;
      enough = omega (arith, g.enough, moved, tk.within);
      run = record { what = snoc gr.what w1.what; same = goes _ try w1.same; moved = omega (arith, moved, gr.moved); room = omega (arith, room, old); text = joined gr.what w1.what (take c.args.cursor.at c.args.store.now) w1.text gr.text };
      many = count_snoc gr.what w1.what ∙ ap (λ (i : ℕ). i + 1) g.many;
      short = omega (arith, g.short, moved);
      ending = next_ends gr.what mk (grown c.args.store.now c.loop-token.store (all_records gr.what) _ _ gr.text (omega (arith, c.requires)) (omega (arith, c.requires, g.kept, gr.moved, old)));
      kept = omega (arith, g.kept);
    }

pub list-returns-in-Control : goal.list-returns-in-Control
list-returns-in-Control t c = let g = c.loop-token.invariant in
    let gr = g.run in
    let tk = taken c.in_ok-token.ensures in
    let try = link gr.same (way _ (stmts_turn _ _ gr.what _ g.fuel _ g.enough tk c.if-token-eq-SEMICOLON.false (sym c.ends.ensures ∙ c.if-ends.false))) in
    let k1 = was_control c.in-Control.is c.in_ok-next.ensures in
    let kr = k1.run in
    record {
      how = record {
        run = record { what = record { suite = gr.what; control = kr.what }; same = goes _ try kr.same; moved = omega (arith, gr.moved, kr.moved); room = omega (arith, gr.room, kr.room); text = held_text gr.what kr.what (take c.args.cursor.at c.args.store.now) kr.text gr.text g.many };
        held = k1.held;
      };
    }

pub list-loop-token-preserved : goal.list-loop-token-preserved
list-loop-token-preserved t c = let g = c.loop-token.invariant in
    let gr = g.run in
    let tk = taken c.in_ok-token.ensures in
    let try = link gr.same (way _ (stmts_turn _ _ gr.what _ g.fuel _ g.enough tk c.if-token-eq-SEMICOLON.false (sym c.ends.ensures ∙ c.if-ends.false))) in
    let v = was_caught c.in-Caught.is c.in_ok-next.ensures in
    record {
      fuel = g.fuel - 1;
      enough = omega (arith, g.enough, v.moved, tk.within);
      run = record { what = gr.what; same = goes _ try v.same; moved = omega (arith, gr.moved, v.moved); room = omega (arith, gr.room, v.moved); text = v.text ∙ append-nil _ ∙ gr.text };
      many = g.many;
      short = omega (arith, g.short, v.moved);
      ending = g.ending;
      kept = omega (arith, g.kept);
    }

pub list-returns-in_err-next : goal.list-returns-in_err-next
list-returns-in_err-next t c = let g = c.loop-token.invariant in
    let gr = g.run in
    let tk = taken c.in_ok-token.ensures in
    let try = link gr.same (way _ (stmts_turn _ _ gr.what _ g.fuel _ g.enough tk c.if-token-eq-SEMICOLON.false (sym c.ends.ensures ∙ c.if-ends.false))) in
    rw (handed c.from_residual-in_err-next.ensures.1) (record { how = fails _ try (was_not c.in_err-next.ensures) (prefix gr (omega (arith, c.requires))) (omega (arith, gr.moved, gr.room)) })

pub list-returns-in_err-token : goal.list-returns-in_err-token
list-returns-in_err-token t c = let g = c.loop-token.invariant in
    let gr = g.run in
    rw (handed c.from_residual.ensures.1) (record { how = fails_unseen gr.same (stmts_looks _ _ gr.what _ _ g.fuel _ g.enough) c.in_err-token.ensures (prefix gr (omega (arith, c.requires))) (omega arith) })
