-- What is left to show of `cycle::sig` in its cycle of calls. Assumes nothing.
use mathlib.Core.Path.{refl}
use Prim.Native.Nat.{◌-◌}
use native.Mathlib.Omega.{arith}
use lib.ListN.{length, take, drop, length-drop}
use Rattle.grammar.specs.Reading.Depth.{at_depth}
use Rattle.scan.proofs.Laws.{hands, way, here, link, taken, fails, fails_unseen, prefix}
use Rattle.cycle.proofs.PathsParams.{params_looks, params_close, params_more, round, unjoined, no_params, none_fit, no_words_yet}
use Rattle.cycle.proofs.+reading.Goals as goal

pub sig-loop-token-init : goal.sig-loop-token-init
sig-loop-token-init t c = record { fuel = length (drop c.args.cursor.pos c.args.tokens.now); enough = rw length-drop (omega arith); run = record { what = no_params; same = here; moved = omega arith; room = omega arith; text = no_words_yet (take c.args.cursor.at c.args.store.now) }; fits = none_fit; few = omega arith; below = tt; kept = refl }

pub sig-returns-then-token-eq-CLOSE_PAREN : goal.sig-returns-then-token-eq-CLOSE_PAREN
sig-returns-then-token-eq-CLOSE_PAREN t c = let i = c.loop-token.invariant in
    let g = i.run in
    let tk = taken c.in_ok-token.ensures in
    let e = c.params_end.ensures in
    record { how = record { what = g.what; same = link g.same (way _ (params_close _ g.what _ i.fuel _ i.enough tk c.if-token-eq-CLOSE_PAREN.true)); moved = g.moved; room = omega (arith, c.requires, g.moved, g.room, e.up, e.far); text = e.text (take c.args.cursor.at c.args.store.now) g.what i.fits g.text } }

pub sig-loop-token-smaller : goal.sig-loop-token-smaller
sig-loop-token-smaller t c = let i = c.loop-token.invariant in
    let g = i.run in
    let tk = taken c.in_ok-token.ensures in
    let on = link g.same (way _ (params_more _ g.what _ i.fuel _ i.enough tk c.if-token-eq-CLOSE_PAREN.false)) in
    let rd = round (at_depth c.args.depth) i.fuel g i.fits i.few on (omega (arith, c.requires)) (omega (arith, c.requires)) (omega (arith, c.requires)) (omega (arith, c.requires)) (omega (arith, c.requires)) c.in_ok-one.ensures c.in_ok-all.ensures in
    omega (arith, rd.far, rd.run.moved.within)

pub sig-loop-token-preserved : goal.sig-loop-token-preserved
sig-loop-token-preserved t c = let i = c.loop-token.invariant in
    let g = i.run in
    let tk = taken c.in_ok-token.ensures in
    let on = link g.same (way _ (params_more _ g.what _ i.fuel _ i.enough tk c.if-token-eq-CLOSE_PAREN.false)) in
    let rd = round (at_depth c.args.depth) i.fuel g i.fits i.few on (omega (arith, c.requires)) (omega (arith, c.requires)) (omega (arith, c.requires)) (omega (arith, c.requires)) (omega (arith, c.requires)) c.in_ok-one.ensures c.in_ok-all.ensures in
    record { fuel = i.fuel - 1; enough = omega (arith, i.enough, rd.far); run = rd.run; fits = rd.fits; few = rd.few; below = rd.below; kept = omega arith }

pub sig-returns-in_err-one : goal.sig-returns-in_err-one
sig-returns-in_err-one t c = let i = c.loop-token.invariant in
    let g = i.run in
    let tk = taken c.in_ok-token.ensures in
    let on = link g.same (way _ (params_more _ g.what _ i.fuel _ i.enough tk c.if-token-eq-CLOSE_PAREN.false)) in
    hands c.from_residual-in_err-one.ensures.1 (fails _ on c.in_err-one.ensures.how (prefix g (omega (arith, c.requires))) (omega (arith, g.moved, g.room)))

pub sig-returns-in_err-all : goal.sig-returns-in_err-all
sig-returns-in_err-all t c = let i = c.loop-token.invariant in
    let g = i.run in
    let tk = taken c.in_ok-token.ensures in
    let on = link g.same (way _ (params_more _ g.what _ i.fuel _ i.enough tk c.if-token-eq-CLOSE_PAREN.false)) in
    hands c.from_residual-in_err-all.ensures.1 (unjoined (at_depth c.args.depth) i.fuel g i.fits i.few on (omega (arith, c.requires)) (omega (arith, c.requires)) (omega (arith, c.requires)) (omega (arith, c.requires)) (omega (arith, c.requires)) c.in_ok-one.ensures c.in_err-all.ensures)

pub sig-returns-in_err-token : goal.sig-returns-in_err-token
sig-returns-in_err-token t c = let i = c.loop-token.invariant in
    let g = i.run in
    hands c.from_residual.ensures.1 (fails_unseen g.same (params_looks _ g.what _ _ i.fuel _ i.enough) c.in_err-token.ensures (prefix g (omega arith)) (omega arith))
