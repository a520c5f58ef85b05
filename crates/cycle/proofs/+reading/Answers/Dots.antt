-- What is left to show of `cycle::dots` in its cycle of calls. Assumes nothing.
use mathlib.Core.Path.{refl}
use native.Mathlib.Omega.{arith}
use lib.ListN.{take}
use Rattle.tree.specs.Node
use Rattle.scan.proofs.Laws.{hands, way, here, link, goes, done, undone, taken, fails, fails_unseen, prefix, relabel}
use Rattle.cycle.proofs.PathsPrimary.{unpack_looks, dots_looks, unpack_lone, unpack_some, dots_more, dots_none}
use Rattle.cycle.proofs.Shapes.{given}
use Rattle.cycle.proofs.Writing.{written, taller}
use Rattle.grammar.proofs.Laws.Levels.Nonterminals.{depth_levels, primary_leveled}
use Rattle.cycle.proofs.+reading.Goals as goal

pub dots-returns-then-token-eq-ELLIPSIS : goal.dots-returns-then-token-eq-ELLIPSIS
dots-returns-then-token-eq-ELLIPSIS t c = let tk = taken c.in_ok-token.ensures in
    let e = c.lone_unpack.ensures in
    record { how = record { what = Node.unpack Node.absent; same = way _ (unpack_lone _ _ tk c.if-token-eq-ELLIPSIS.true); moved = omega (arith, c.requires, tk.within); room = omega (arith, e.up, e.far); text = e.text } }

pub dots-returns-in_err-operand : goal.dots-returns-in_err-operand
dots-returns-in_err-operand t c = let tk = taken c.in_ok-token.ensures in
    let path = way _ (unpack_some _ _ tk c.if-token-eq-ELLIPSIS.false) in
    hands c.from_residual-in_err-operand.ensures.1 (fails _ path (undone c.in_err-operand.ensures) refl (omega arith))

pub dots-unpack_end-requires : goal.dots-unpack_end-requires
dots-unpack_end-requires t c = let w = done c.in_ok-operand.ensures in
    let tk2 = taken c.in_ok-other.ensures in
    let l = taller w (omega (arith, c.requires)) in
    (omega arith, omega (arith, c.requires, w.moved, w.room, tk2.within, c.prim.auto.store))

pub dots-returns-then-other-eq-ELLIPSIS : goal.dots-returns-then-other-eq-ELLIPSIS
dots-returns-then-other-eq-ELLIPSIS t c = let tk = taken c.in_ok-token.ensures in
    let path = way _ (unpack_some _ _ tk c.if-token-eq-ELLIPSIS.false) in
    let w = done c.in_ok-operand.ensures in
    let on = goes _ path w.same in
    let tk2 = taken c.in_ok-other.ensures in
    written (c.unpack_end.ensures (take c.args.cursor.at c.args.store.now) w.what c.args.tokens.now (given (primary_leveled _ (depth_levels c.args.depth) _ _) w.same).leveled.small w.text tk2.within) refl (link on (way _ (dots_more _ _ tk2 c.if-other-eq-ELLIPSIS.true))) (prefix w (omega (arith, c.requires))) (omega (arith, c.requires, w.moved, w.room, tk2.within))

pub dots-returns : goal.dots-returns
dots-returns t c = let tk = taken c.in_ok-token.ensures in
    let path = way _ (unpack_some _ _ tk c.if-token-eq-ELLIPSIS.false) in
    let w = done c.in_ok-operand.ensures in
    let on = goes _ path w.same in
    let tk2 = taken c.in_ok-other.ensures in
    record { how = relabel w w.what refl (link on (way _ (dots_none _ _ tk2 c.if-other-eq-ELLIPSIS.false))) w.moved w.room }

pub dots-returns-in_err-other : goal.dots-returns-in_err-other
dots-returns-in_err-other t c = let tk = taken c.in_ok-token.ensures in
    let path = way _ (unpack_some _ _ tk c.if-token-eq-ELLIPSIS.false) in
    let w = done c.in_ok-operand.ensures in
    let on = goes _ path w.same in
    hands c.from_residual-in_err-other.ensures.1 (fails_unseen on (dots_looks w.what _ _) c.in_err-other.ensures (prefix w (omega arith)) (omega arith))

pub dots-returns-in_err-token : goal.dots-returns-in_err-token
dots-returns-in_err-token t c = hands c.from_residual.ensures.1 (fails_unseen here (unpack_looks _ _ _) c.in_err-token.ensures refl (omega arith))
