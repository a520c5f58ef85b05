-- What is left to show of `cycle::item` in its cycle of calls. Assumes nothing.
use mathlib.Core.Path.{refl}
use native.Mathlib.Omega.{arith}
use Rattle.scan.proofs.Laws.{hands, way, goes, done, undone, fails, lacks, passed, unpassed, gets, prefix}
use Rattle.nodes.proofs.Made.{made_two}
use Rattle.cycle.proofs.PathsPrimary.{item_step}
use Rattle.cycle.proofs.+reading.Goals as goal

pub item-returns-in_err-field : goal.item-returns-in_err-field
item-returns-in_err-field t c = hands c.from_residual.ensures.1 (fails _ (way _ (item_step _ _ _)) (undone c.in_err-field.ensures) refl (omega arith))

pub item-returns-in_err-pos : goal.item-returns-in_err-pos
item-returns-in_err-pos t c = let f = done c.in_ok-field.ensures in
    let on = goes _ (way _ (item_step _ _ _)) f.same in
    hands c.from_residual-in_err-pos.ensures.1 (lacks _ (unpassed c.in_err-pos.ensures) on (prefix f (omega (arith, c.requires))) (omega (arith, f.moved)))

pub item-returns-in_err-value : goal.item-returns-in_err-value
item-returns-in_err-value t c = let f = done c.in_ok-field.ensures in
    let on = goes _ (way _ (item_step _ _ _)) f.same in
    let s = passed c.in_ok-pos.ensures in
    let path = gets _ s on in
    hands c.from_residual-in_err-value.ensures.1 (fails _ path (undone c.in_err-value.ensures) (prefix f (omega (arith, c.requires))) (omega (arith, f.moved, f.room, s.on)))

pub item-returns : goal.item-returns
item-returns t c = let f = done c.in_ok-field.ensures in
    let on = goes _ (way _ (item_step _ _ _)) f.same in
    let s = passed c.in_ok-pos.ensures in
    let path = gets _ s on in
    let w = done c.in_ok-value.ensures in
    record { how = made_two 21 f w c.emit.ensures (goes _ path w.same) (omega (arith, f.moved, s.on, w.moved)) (omega (arith, f.room, s.on, w.room, c.emit.ensures.next)) refl }
