-- `writer::class::binary_class` meets its contract: each arm is the definition there. Assumes nothing.
use native.Mathlib.Omega.{arith}
use Rattle.tables.proofs.Operators.{level_range}
use Rattle.writer.proofs.class.binary_class.Goals as goal

pub overflow_add-result : goal.overflow_add-result
overflow_add-result c = omega (arith, level_range c.args.value)
