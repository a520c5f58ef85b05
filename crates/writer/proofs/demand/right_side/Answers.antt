-- `writer::demand::right_side` meets its contract: each arm is the definition there. Assumes nothing.
use native.Mathlib.Omega.{arith}
use Rattle.tables.proofs.Operators.{level_range}
use Rattle.writer.proofs.demand.right_side.Goals as goal

pub overflow_mul-result : goal.overflow_mul-result
overflow_mul-result c = omega (arith, level_range c.args.value)

pub overflow_add-result : goal.overflow_add-result
overflow_add-result c = omega (arith, level_range c.args.value)
