-- What is left to show of `cycle::begin` in its cycle of calls. Assumes nothing.
use mathlib.Core.Path.{refl}
use native.Mathlib.Omega.{arith}
use Rattle.scan.proofs.Laws.{hands, here, taken, fails_unseen, later}
use Rattle.cycle.proofs.PathsStmt.{begin_looks, begin_is, begin_not}
use Rattle.cycle.proofs.Writing.{fails_with}
use Rattle.cycle.proofs.+reading.Goals as goal

pub begin-returns : goal.begin-returns
begin-returns t c = let tk = taken c.in_ok-token.ensures in
    later (begin_is _ _ tk _ c.if-token-ne-BEGIN.false) c.block.ensures (omega arith) (omega arith) (omega arith)

pub begin-returns-then-token-ne-BEGIN : goal.begin-returns-then-token-ne-BEGIN
begin-returns-then-token-ne-BEGIN t c = let tk = taken c.in_ok-token.ensures in
    fails_with (begin_not _ _ tk _ c.if-token-ne-BEGIN.true) (omega arith) (omega arith)

pub begin-returns-in_err-token : goal.begin-returns-in_err-token
begin-returns-in_err-token t c = hands c.from_residual.ensures.1 (fails_unseen here (begin_looks _ _ _ _) c.in_err-token.ensures refl (omega arith))
