-- What is left to show of `cycle::key` in its cycle of calls. Assumes nothing.
use mathlib.Core.Path.{refl}
use native.Mathlib.Omega.{arith}
use Rattle.scan.proofs.Laws.{hands, way, here, goes, done, undone, taken, fails, fails_unseen}
use Rattle.nodes.proofs.Made.{made_one}
use Rattle.cycle.proofs.PathsPrimary.{field_looks, field_square, field_named}
use Rattle.cycle.proofs.Writing.{written}
use Rattle.cycle.proofs.+reading.Goals as goal

pub key-returns-then-token-ne-OPEN_SQUARE : goal.key-returns-then-token-ne-OPEN_SQUARE
key-returns-then-token-ne-OPEN_SQUARE t c = let tk = taken c.in_ok-token.ensures in
    written c.named_field.ensures refl (way _ (field_named _ _ tk c.if-token-ne-OPEN_SQUARE.true)) refl (omega (arith, c.requires, tk.within))

pub key-returns-in_err-place : goal.key-returns-in_err-place
key-returns-in_err-place t c = let tk = taken c.in_ok-token.ensures in
    let path = way _ (field_square _ _ tk c.if-token-ne-OPEN_SQUARE.false) in
    hands c.from_residual-in_err-place.ensures.1 (fails _ path (undone c.in_err-place.ensures) refl (omega arith))

pub key-returns : goal.key-returns
key-returns t c = let tk = taken c.in_ok-token.ensures in
    let path = way _ (field_square _ _ tk c.if-token-ne-OPEN_SQUARE.false) in
    let w = done c.in_ok-place.ensures in
    record { how = made_one 28 w c.emit.ensures (goes _ path w.same) (omega (arith, c.requires, tk.within, w.moved)) (omega (arith, w.room, c.emit.ensures.next)) refl }

pub key-returns-in_err-token : goal.key-returns-in_err-token
key-returns-in_err-token t c = hands c.from_residual.ensures.1 (fails_unseen here (field_looks _ _ _) c.in_err-token.ensures refl (omega arith))
