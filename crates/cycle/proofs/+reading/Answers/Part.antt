-- What is left to show of `cycle::part` in its cycle of calls. Assumes nothing.
use mathlib.Core.Path.{refl}
use native.Mathlib.Omega.{arith}
use Rattle.scan.proofs.Laws.{hands, way, goes, done, undone, fails, later}
use Rattle.nodes.proofs.Made.{made_one}
use Rattle.cycle.proofs.PathsPrimary.{part_member, part_index, part_call, part_table}
use Rattle.cycle.proofs.Writing.{written, made_list}
use Rattle.cycle.proofs.+reading.Goals as goal

pub part-returns-in_err-place-in-4 : goal.part-returns-in_err-place-in-4
part-returns-in_err-place-in-4 t c = let path = way _ (part_index _ _ _ c.in-4.is) in
    hands c.from_residual.ensures.1 (fails _ path (undone c.in_err-place-in-4.ensures) refl (omega arith))

pub part-returns-in_err-items-in_default : goal.part-returns-in_err-items-in_default
part-returns-in_err-items-in_default t c = hands c.from_residual-in_err-items-in_default.ensures.1 (fails _ (way _ (part_table _ _ _ (search) (search) (search))) (undone c.in_err-items-in_default.ensures) refl (omega arith))

pub part-returns-in-40 : goal.part-returns-in-40
part-returns-in-40 t c = written c.member.ensures refl (way _ (part_member _ _ _ c.in-40.is)) refl (omega (arith, c.requires.0, c.requires.1))

pub part-returns-in_ok-place-in-4 : goal.part-returns-in_ok-place-in-4
part-returns-in_ok-place-in-4 t c = let path = way _ (part_index _ _ _ c.in-4.is) in
    let w = done c.in_ok-place-in-4.ensures in
    record { how = made_one 38 w c.emit.ensures (goes _ path w.same) w.moved (omega (arith, w.room, c.emit.ensures.next)) refl }

pub part-returns-in-0 : goal.part-returns-in-0
part-returns-in-0 t c = later (part_call _ _ _ c.in-0.is) c.call.ensures (omega arith) (omega arith) (omega arith)

pub part-returns-in_ok-items-in_default : goal.part-returns-in_ok-items-in_default
part-returns-in_ok-items-in_default t c = let path = way _ (part_table _ _ _ (search) (search) (search)) in
    let w = done c.in_ok-items-in_default.ensures in
    record { how = made_list 40 w c.emit-in_default.ensures (goes _ path w.same) w.moved (omega (arith, w.room, c.emit-in_default.ensures.next)) refl }
