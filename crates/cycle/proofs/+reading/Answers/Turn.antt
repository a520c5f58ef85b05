-- What is left to show of `cycle::turn` in its cycle of calls. Assumes nothing.
use native.Mathlib.Omega.{arith}
use lib.ListN.{take}
use Rattle.scan.proofs.Laws.{handed, way, wins, loses, done, undone, missed, stops, prefix}
use Rattle.cycle.proofs.PathsControl.{control_held}
use Rattle.cycle.proofs.PathsList.{turn_control, turn_stmt, caught_two, catches, catches_not, control_text, closes, closes_not}
use Rattle.cycle.proofs.Shapes.{given}
use Rattle.cycle.proofs.Writing.{emitted_before}
use Rattle.cycle.proofs.+reading.Goals as goal

pub turn-returns-in_err-pos-in-Ok : goal.turn-returns-in_err-pos-in-Ok
turn-returns-in_err-pos-in-Ok t c = let e = c.list_end.ensures in
    let hold = way _ (turn_control _ _ _ _ _ _ c.which_control.ensures c.in-Some.is) in
    let k1 = done c.in-Ok.ensures in
    rw (handed c.from_residual.ensures.1) (closes_not k1.what (wins _ _ hold k1.same) (given (control_held _ _ _ _) k1.same) (control_text c.args.suite.count k1.what (take c.args.suite.end.at c.args.store.now) k1.text e.text) (emitted_before e (omega (arith, c.requires)) _ (prefix k1 (omega (arith, c.requires, e.next, e.whole)))) (omega (arith, e.next, k1.moved, k1.room)) c.in_err-pos-in-Ok.ensures)

pub turn-returns-in_ok-pos-in-Ok : goal.turn-returns-in_ok-pos-in-Ok
turn-returns-in_ok-pos-in-Ok t c = let e = c.list_end.ensures in
    let hold = way _ (turn_control _ _ _ _ _ _ c.which_control.ensures c.in-Some.is) in
    let k1 = done c.in-Ok.ensures in
    closes k1.what (wins _ _ hold k1.same) (given (control_held _ _ _ _) k1.same) (control_text c.args.suite.count k1.what (take c.args.suite.end.at c.args.store.now) k1.text e.text) (emitted_before e (omega (arith, c.requires)) _ (prefix k1 (omega (arith, c.requires, e.next, e.whole)))) (omega (arith, e.next, k1.moved, k1.room)) c.in_ok-pos-in-Ok.ensures

pub turn-returns-in_err-pos-in-Err-Fail : goal.turn-returns-in_err-pos-in-Err-Fail
turn-returns-in_err-pos-in-Err-Fail t c = let e = c.list_end.ensures in
    let hold = way _ (turn_control _ _ _ _ _ _ c.which_control.ensures c.in-Some.is) in
    let k2 = missed c.in-Err-Fail.field-0-is (undone c.in-Err-Fail.ensures) in
    rw (handed c.from_residual-in_err-pos-in-Err-Fail.ensures.1) (catches_not (loses _ _ hold k2.same) (emitted_before e (omega (arith, c.requires)) _ k2.text) (omega (arith, c.requires, e.next, e.whole, k2.moved)) (rw c.in-Err-Fail.field-0-is at c.in_err-pos-in-Err-Fail.ensures))

pub turn-returns-in_ok-pos-in-Err-Fail : goal.turn-returns-in_ok-pos-in-Err-Fail
turn-returns-in_ok-pos-in-Err-Fail t c = let e = c.list_end.ensures in
    let hold = way _ (turn_control _ _ _ _ _ _ c.which_control.ensures c.in-Some.is) in
    let k2 = missed c.in-Err-Fail.field-0-is (undone c.in-Err-Fail.ensures) in
    catches (loses _ _ hold k2.same) (emitted_before e (omega (arith, c.requires)) _ k2.text) (omega (arith, c.requires, e.next, e.whole, k2.moved)) (rw c.in-Err-Fail.field-0-is at c.in_ok-pos-in-Err-Fail.ensures) (caught_two _ _ _ _)

pub turn-returns-in-Err-Stop : goal.turn-returns-in-Err-Stop
turn-returns-in-Err-Stop t c = let hold = way _ (turn_control _ _ _ _ _ _ c.which_control.ensures c.in-Some.is) in
    rw c.in-Err-Stop.field-0-is (record { how = stops _ _ c.in-Err-Stop.field-0-is hold (undone c.in-Err-Stop.ensures) })

pub turn-returns-in_err-pos-in-Err-Fail-stmt : goal.turn-returns-in_err-pos-in-Err-Fail-stmt
turn-returns-in_err-pos-in-Err-Fail-stmt t c = let try = way _ (turn_stmt _ _ _ _ _ _ c.which_control.ensures c.in_default.not-Some) in
    let m = missed c.in-Err-Fail-stmt.field-0-is (undone c.in-Err-Fail-stmt.ensures) in
    let far = m.far in
    rw (handed c.from_residual-in_err-pos-in-Err-Fail-stmt.ensures.1) (catches_not (loses _ _ try m.same) m.text (omega (arith, c.requires, far, m.moved)) c.in_err-pos-in-Err-Fail-stmt.ensures)

pub turn-returns-in-Ok-stmt : goal.turn-returns-in-Ok-stmt
turn-returns-in-Ok-stmt t c = let try = way _ (turn_stmt _ _ _ _ _ _ c.which_control.ensures c.in_default.not-Some) in
    let w1 = done c.in-Ok-stmt.ensures in
    record { how = record { what = w1.what; same = wins _ _ try w1.same; moved = w1.moved; room = w1.room; text = w1.text } }

pub turn-returns-in_ok-pos-in-Err-Fail-stmt : goal.turn-returns-in_ok-pos-in-Err-Fail-stmt
turn-returns-in_ok-pos-in-Err-Fail-stmt t c = let try = way _ (turn_stmt _ _ _ _ _ _ c.which_control.ensures c.in_default.not-Some) in
    let m = missed c.in-Err-Fail-stmt.field-0-is (undone c.in-Err-Fail-stmt.ensures) in
    let far = m.far in
    catches (loses _ _ try m.same) m.text (omega (arith, c.requires, far, m.moved)) c.in_ok-pos-in-Err-Fail-stmt.ensures (caught_two _ _ _ _)

pub turn-returns-in-Err-Stop-stmt : goal.turn-returns-in-Err-Stop-stmt
turn-returns-in-Err-Stop-stmt t c = let try = way _ (turn_stmt _ _ _ _ _ _ c.which_control.ensures c.in_default.not-Some) in
    record { how = stops _ _ c.in-Err-Stop-stmt.field-0-is try (undone c.in-Err-Stop-stmt.ensures) }
