-- `operator::op_level` meets its contract. Assumes nothing.
use Rattle.operator.specs.Table.{decision}
use Rattle.operator.proofs.op_level.Goals as goal

pub returns : goal.returns
unfolding decision
returns c = c.entry.ensures
