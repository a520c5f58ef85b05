-- `operator::op_number` meets its contract: it is one less than what the table has. Assumes nothing.
use native.Mathlib.Omega.{arith}
use Rattle.operator.specs.Laws.{number_code}
use Rattle.operator.specs.Table.{decision}
use Rattle.operator.proofs.op_number.Goals as goal

pub returns-then-code-eq0 : goal.returns-then-code-eq0
unfolding decision
returns-then-code-eq0 c = omega (arith, number_code c.args.kind)

pub returns : goal.returns
unfolding decision
returns c = omega (arith, number_code c.args.kind)
