-- What is left to show of `cycle::sync` in its cycle of calls. Assumes nothing.
use mathlib.Core.Path.{refl, sym, ◌∙◌}
use mathlib.Core.List.{append-nil}
use Prim.Native.Nat.{◌-◌}
use native.Mathlib.Omega.{arith}
use lib.ListN.{length, take, drop, length-drop}
use Rattle.scan.proofs.Laws.{way, here, link, wins, loses, done, undone, missed, stops, taken, stops_unseen, unseen, unread_stop, prefix}
use Rattle.cycle.proofs.PathsControl.{sync_none, sync_skip, sync_halt, sync_try, sync_stop}
use Rattle.cycle.proofs.+reading.Goals as goal

pub sync-loop-token-init : goal.sync-loop-token-init
sync-loop-token-init t c = record { fuel = length (drop c.args.cursor.pos c.args.tokens.now); enough = rw length-drop (omega arith); same = here; moved = omega arith; text = refl; kept = refl }

pub sync-returns-then-halts : goal.sync-returns-then-halts
sync-returns-then-halts t c = let g = c.loop-token.invariant in
    let tk = taken c.in-Ok.ensures in
    record { how = record { what = tt; same = link g.same (way _ (sync_halt _ _ _ g.fuel _ g.enough tk (sym c.halts.ensures ∙ c.if-halts.true))); moved = g.moved; room = omega arith; text = g.text ∙ sym (append-nil (take c.args.cursor.at c.args.store.now)) } }

pub sync-returns-in-Ok-expr : goal.sync-returns-in-Ok-expr
sync-returns-in-Ok-expr t c = let g = c.loop-token.invariant in
    let tk = taken c.in-Ok.ensures in
    let try = link g.same (way _ (sync_try _ _ _ g.fuel _ g.enough tk (sym c.halts.ensures ∙ c.if-halts.false))) in
    let w = done c.in-Ok-expr.ensures in
    let gm = g.moved in
    record { how = record { what = tt; same = wins _ _ try w.same; moved = omega arith; room = omega arith; text = prefix w (omega (arith, c.requires)) ∙ g.text ∙ sym (append-nil (take c.args.cursor.at c.args.store.now)) } }

pub sync-loop-token-preserved-in-Err-Fail-expr : goal.sync-loop-token-preserved-in-Err-Fail-expr
sync-loop-token-preserved-in-Err-Fail-expr t c = let g = c.loop-token.invariant in
    let tk = taken c.in-Ok.ensures in
    let try = link g.same (way _ (sync_try _ _ _ g.fuel _ g.enough tk (sym c.halts.ensures ∙ c.if-halts.false))) in
    let m = missed c.in-Err-Fail-expr.field-0-is (undone c.in-Err-Fail-expr.ensures) in
    let gm = g.moved in
    let far = m.far in
    record { fuel = g.fuel - 1; enough = omega arith; same = loses _ _ try m.same; moved = omega arith; text = m.text ∙ g.text; kept = omega arith }

pub sync-returns-in-Err-Stop-expr : goal.sync-returns-in-Err-Stop-expr
sync-returns-in-Err-Stop-expr t c = let g = c.loop-token.invariant in
    let tk = taken c.in-Ok.ensures in
    let try = link g.same (way _ (sync_try _ _ _ g.fuel _ g.enough tk (sym c.halts.ensures ∙ c.if-halts.false))) in
    record { how = stops _ _ c.in-Err-Stop-expr.field-0-is try (undone c.in-Err-Stop-expr.ensures) }

pub sync-returns-then-failure-eq-END_OF_TOKENS : goal.sync-returns-then-failure-eq-END_OF_TOKENS
sync-returns-then-failure-eq-END_OF_TOKENS t c = let g = c.loop-token.invariant in
    let ms = unseen c.in-Err-Fail.field-0-is c.in-Err-Fail.ensures in
    record { how = record { what = tt; same = link g.same (sync_none _ _ _ g.fuel _ g.enough ms c.if-failure-eq-END_OF_TOKENS.true); moved = g.moved; room = omega arith; text = g.text ∙ sym (append-nil (take c.args.cursor.at c.args.store.now)) } }

pub sync-loop-token-preserved : goal.sync-loop-token-preserved
sync-loop-token-preserved t c = let g = c.loop-token.invariant in
    let ms = unseen c.in-Err-Fail.field-0-is c.in-Err-Fail.ensures in
    let past = ms.past c.if-failure-eq-END_OF_TOKENS.false in
    let within = ms.lacks.within in
    let gm = g.moved in
    record { fuel = g.fuel - 1; enough = omega arith; same = link g.same (sync_skip _ _ _ g.fuel _ g.enough ms c.if-failure-eq-END_OF_TOKENS.false); moved = omega arith; text = g.text; kept = g.kept }

pub sync-returns-in-Err-Stop : goal.sync-returns-in-Err-Stop
sync-returns-in-Err-Stop t c = let g = c.loop-token.invariant in
    record { how = stops_unseen _ (unread_stop c.in-Err-Stop.field-0-is c.in-Err-Stop.ensures) g.same (sync_stop _ _ _ _ g.fuel _ g.enough) }
