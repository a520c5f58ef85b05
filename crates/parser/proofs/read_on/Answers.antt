-- `parser::read_on` meets its contract. Assumes nothing.
use native.Mathlib.Omega.{arith}
use Rattle.scan.proofs.Laws.{undone, missed}
use Rattle.parser.proofs.Answers.{lost_out, tree_out}
use Rattle.parser.proofs.read_on.Goals as goal

pub returns-in-Ok : goal.returns-in-Ok
returns-in-Ok c =
    let w = c.in-Ok.ensures.how in
    let r = w.room.room in
    let i = w.moved.within in
    tree_out c.args.unread.now c.args.position _ c.requires.0 c.new-queue.ensures _ w c.clear.ensures c.statement.auto.store (omega arith) c.go_on.ensures

pub returns-in-Err-Fail : goal.returns-in-Err-Fail
returns-in-Err-Fail c = lost_out c.args.unread.now c.args.position _ c.requires.0 c.new-queue.ensures _ (missed c.in-Err-Fail.field-0-is (undone c.in-Err-Fail.ensures)) c.clear-in-Err-Fail.ensures c.statement.auto.store c.error_answer.ensures c.go_on-in-Err-Fail.ensures
