-- `operator::unary_code` meets its contract. Assumes nothing.
use native.Mathlib.Omega.{arith}
use Rattle.operator.specs.Laws.{unary_most}
use Rattle.operator.specs.Table.{decision}
use Rattle.operator.proofs.unary_code.Goals as goal

pub returns : goal.returns
unfolding decision
returns c = let e = c.entry.ensures in
    (e, omega (arith, unary_most c.args.kind))
