-- `operator::operators` meets its contract: the table has no fault, by one test that antt computes over all of its numbers. Assumes nothing.
use mathlib.Core.Path.{refl}
use Rattle.operator.specs.Operator.{which_unary_op, which_binary_op, which_assignment_op, unary_code, binary_code, op_level, assign_code}
use Rattle.operator.specs.Table.{decision, faults}
use Rattle.operator.proofs.operators.Goals as goal

pub returns : goal.returns
unfolding faults decision unary_code binary_code op_level assign_code which_unary_op which_binary_op which_assignment_op
returns c = refl
