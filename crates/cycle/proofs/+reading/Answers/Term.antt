-- What is left to show of `cycle::term` in its cycle of calls. Assumes nothing.
use mathlib.Core.Path.{refl}
use native.Mathlib.Omega.{arith}
use Rattle.scan.proofs.Laws.{hands, way, here, goes, done, undone, taken, fails, fails_unseen, as_agrees, later}
use Rattle.cycle.proofs.PathsPrimary.{operand_looks, operand_class, operand_fun, operand_if, operand_begin, operand_table, operand_label, operand_other}
use Rattle.cycle.proofs.Writing.{made_list}
use Rattle.cycle.proofs.+reading.Goals as goal

pub term-returns-in_err-items-in-2 : goal.term-returns-in_err-items-in-2
term-returns-in_err-items-in-2 t c = let tk = taken c.in_ok-token.ensures in
    let path = way _ (operand_table _ _ tk c.in-2.is) in
    hands c.from_residual-in_err-items-in-2.ensures.1 (fails _ path (undone c.in_err-items-in-2.ensures) refl (omega arith))

pub term-returns-in-66 : goal.term-returns-in-66
term-returns-in-66 t c = let tk = taken c.in_ok-token.ensures in
    record { how = record { how = record { same = way _ (operand_class _ _ tk c.in-66.is); moved = omega arith; far = omega arith; text = refl } } }

pub term-returns-in-65 : goal.term-returns-in-65
term-returns-in-65 t c = let tk = taken c.in_ok-token.ensures in
    later (operand_fun _ _ tk c.in-65.is) c.fun.ensures (omega arith) (omega arith) (omega arith)

pub term-returns-in-52 : goal.term-returns-in-52
term-returns-in-52 t c = let tk = taken c.in_ok-token.ensures in
    later (operand_if _ _ tk c.in-52.is) c.cond.ensures (omega arith) (omega arith) (omega arith)

pub term-returns-in-56 : goal.term-returns-in-56
term-returns-in-56 t c = let tk = taken c.in_ok-token.ensures in
    later (operand_begin _ _ tk c.in-56.is) c.block.ensures (omega arith) (omega arith) (omega arith)

pub term-returns-in_ok-items-in-2 : goal.term-returns-in_ok-items-in-2
term-returns-in_ok-items-in-2 t c = let tk = taken c.in_ok-token.ensures in
    let path = way _ (operand_table _ _ tk c.in-2.is) in
    let w = done c.in_ok-items-in-2.ensures in
    record { how = made_list 17 w c.emit.ensures (goes _ path w.same) (omega (arith, c.requires, tk.within, w.moved)) (omega (arith, w.room, c.emit.ensures.next)) refl }

pub term-returns-in-73 : goal.term-returns-in-73
term-returns-in-73 t c = let tk = taken c.in_ok-token.ensures in
    later (operand_label _ _ tk c.in-73.is refl) c.begin.ensures (omega arith) (omega arith) (omega arith)

pub term-returns-in_default : goal.term-returns-in_default
term-returns-in_default t c = let tk = taken c.in_ok-token.ensures in
    as_agrees (operand_other _ _ tk (search) (search) (search) (search) (search) (search)) c.dots.ensures

pub term-returns-in_err-token : goal.term-returns-in_err-token
term-returns-in_err-token t c = hands c.from_residual.ensures.1 (fails_unseen here (operand_looks _ _ _) c.in_err-token.ensures refl (omega arith))
