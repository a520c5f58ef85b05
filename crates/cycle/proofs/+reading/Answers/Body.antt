-- What is left to show of `cycle::body` in its cycle of calls. Assumes nothing.
use native.Mathlib.Omega.{arith}
use Rattle.scan.proofs.Laws.{handed}
use Rattle.cycle.proofs.PathsBody.{passes_lists, no_list}
use Rattle.cycle.proofs.+reading.Goals as goal

pub body-returns-in_err-statements : goal.body-returns-in_err-statements
body-returns-in_err-statements t c = rw (handed c.from_residual.ensures.1) (no_list _ (omega arith) c.in_err-statements.ensures)

pub body-returns : goal.body-returns
body-returns t c = passes_lists _ (omega arith) _ _ c.in_ok-statements.ensures c.past.ensures
