-- What is left to show of `cycle::rhs` in its cycle of calls. Assumes nothing.
use Rattle.scan.proofs.Laws.{ends, as_agrees}
use Rattle.cycle.proofs.PathsExpr.{right_stops, right_step}
use Rattle.cycle.proofs.+reading.Goals as goal

pub rhs-returns-then-depth-eq0 : goal.rhs-returns-then-depth-eq0
rhs-returns-then-depth-eq0 t c = record { how = record { how = ends (right_stops _ _ _ c.if-depth-eq0.true) } }

pub rhs-returns : goal.rhs-returns
rhs-returns t c = as_agrees (right_step _ _ _ c.if-depth-eq0.false) c.expr.ensures
