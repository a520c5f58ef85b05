-- `operator::assign_code` meets its contract. Assumes nothing.
use native.Mathlib.Omega.{arith}
use Rattle.operator.specs.Laws.{assign_most}
use Rattle.operator.specs.Table.{decision}
use Rattle.operator.proofs.assign_code.Goals as goal

pub returns : goal.returns
unfolding decision
returns c = let e = c.entry.ensures in
    (e, omega (arith, assign_most c.args.kind))
