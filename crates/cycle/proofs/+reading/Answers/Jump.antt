-- What is left to show of `cycle::jump` in its cycle of calls. Assumes nothing.
use mathlib.Core.Path.{refl}
use native.Mathlib.Omega.{arith}
use Rattle.scan.proofs.Laws.{hands, way, goes, done, undone, fails, lacks, found, unfound}
use Rattle.nodes.proofs.Made.{made_none, made_one}
use Rattle.cycle.proofs.PathsControl.{control_continue, control_break, control_return, labelled}
use Rattle.cycle.proofs.+reading.Goals as goal

pub jump-returns-in_err-label-in-Continue : goal.jump-returns-in_err-label-in-Continue
jump-returns-in_err-label-in-Continue t c = let path = way _ (control_continue _ _ _ c.in-Continue.is) in
    hands c.from_residual.ensures.1 (lacks _ (unfound c.in_err-label-in-Continue.ensures) path refl (omega arith))

pub jump-returns-in_ok-label-in-Continue : goal.jump-returns-in_ok-label-in-Continue
jump-returns-in_ok-label-in-Continue t c = let lab = found c.in_ok-label-in-Continue.ensures in
    let got = lab.got in
    let on = labelled _ lab (way _ (control_continue _ _ _ c.in-Continue.is)) in
    record { how = made_none 8 c.emit-at.ensures on (omega arith) (omega arith) refl }

pub jump-returns-in_err-label-in-Break : goal.jump-returns-in_err-label-in-Break
jump-returns-in_err-label-in-Break t c = let path = way _ (control_break _ _ _ c.in-Break.is) in
    hands c.from_residual-in_err-label-in-Break.ensures.1 (lacks _ (unfound c.in_err-label-in-Break.ensures) path refl (omega arith))

pub jump-returns-in_err-value-in-Break : goal.jump-returns-in_err-value-in-Break
jump-returns-in_err-value-in-Break t c = let lab = found c.in_ok-label-in-Break.ensures in
    let got = lab.got in
    let on = labelled _ lab (way _ (control_break _ _ _ c.in-Break.is)) in
    hands c.from_residual-in_err-value-in-Break.ensures.1 (fails _ on (undone c.in_err-value-in-Break.ensures) refl (omega arith))

pub jump-returns-in_ok-value-in-Break : goal.jump-returns-in_ok-value-in-Break
jump-returns-in_ok-value-in-Break t c = let lab = found c.in_ok-label-in-Break.ensures in
    let got = lab.got in
    let on = labelled _ lab (way _ (control_break _ _ _ c.in-Break.is)) in
    let w = done c.in_ok-value-in-Break.ensures in
    let e = c.emit.ensures in
    record { how = made_one 9 w e (goes _ on w.same) (omega (arith, c.requires, got.on, got.within, w.moved, w.room, e.next)) (omega (arith, c.requires, got.on, got.within, w.moved, w.room, e.next)) refl }

pub jump-returns-in_err-value-in-Return : goal.jump-returns-in_err-value-in-Return
jump-returns-in_err-value-in-Return t c = let path = way _ (control_return _ _ _ c.in-Return.is) in
    hands c.from_residual-in_err-value-in-Return.ensures.1 (fails _ path (undone c.in_err-value-in-Return.ensures) refl (omega arith))

pub jump-returns-in_ok-value-in-Return : goal.jump-returns-in_ok-value-in-Return
jump-returns-in_ok-value-in-Return t c = let w = done c.in_ok-value-in-Return.ensures in
    let path = way _ (control_return _ _ _ c.in-Return.is) in
    record { how = made_one 10 w c.emit-in-Return.ensures (goes _ path w.same) (omega arith) (omega arith) refl }
