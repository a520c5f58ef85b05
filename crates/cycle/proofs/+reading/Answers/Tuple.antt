-- What is left to show of `cycle::tuple` in its cycle of calls. Assumes nothing.
use mathlib.Core.Path.{refl}
use native.Mathlib.Omega.{arith}
use Rattle.tree.specs.Tree.{records}
use Rattle.scan.proofs.Laws.{hands, way, link, goes, done, undone, taken, fails, fails_unseen, prefix, relabel, continued}
use Rattle.cycle.proofs.PathsExpr.{tuple_step, tuple_looks, tuple_one, tuple_more}
use Rattle.cycle.proofs.Trees.{tuple_text}
use Rattle.cycle.proofs.+reading.Goals as goal

pub tuple-returns-in_err-first : goal.tuple-returns-in_err-first
tuple-returns-in_err-first t c = hands c.from_residual.ensures.1 (fails _ (way _ (tuple_step _ _ _)) (undone c.in_err-first.ensures) refl (omega arith))

pub tuple-returns-then-token-eq-COMMA : goal.tuple-returns-then-token-eq-COMMA
tuple-returns-then-token-eq-COMMA t c = let w = done c.in_ok-first.ensures in
    let on = goes _ (way _ (tuple_step _ _ _)) w.same in
    let tk = taken c.in_ok-token.ensures in
    continued _ (records w.what) c.tail.ensures (link on (way _ (tuple_more _ _ _ tk c.if-token-eq-COMMA.true))) w.text (tuple_text w.what) (prefix w (omega (arith, c.requires))) (omega (arith, c.requires, w.moved, w.room))

pub tuple-returns : goal.tuple-returns
tuple-returns t c = let w = done c.in_ok-first.ensures in
    let on = goes _ (way _ (tuple_step _ _ _)) w.same in
    let tk = taken c.in_ok-token.ensures in
    record { how = relabel w w.what refl (link on (way _ (tuple_one _ _ _ tk c.if-token-eq-COMMA.false))) w.moved (omega (arith, w.room)) }

pub tuple-returns-in_err-token : goal.tuple-returns-in_err-token
tuple-returns-in_err-token t c = let w = done c.in_ok-first.ensures in
    let on = goes _ (way _ (tuple_step _ _ _)) w.same in
    hands c.from_residual-in_err-token.ensures.1 (fails_unseen on (tuple_looks _ _ _ _) c.in_err-token.ensures (prefix w (omega arith)) (omega arith))
