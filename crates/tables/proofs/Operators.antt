-- The range of the operators' levels. Assumes nothing.
use Rattle.std.specs.Prelude.{ℕ, ◌≤◌}
use Rattle.std.proofs.Common.{arith}
use Rattle.operator.specs.Operator.{precedence_level}
use Rattle.operator.specs.declared.BinaryOp.{BinaryOp}
use Rattle.operator.specs.declared.BinaryOp.TheVariants.{Mul, Div, Mod, Add, Sub, LShift, RShift, BitAnd, BitXor, BitOr, LT, GT, LE, GE, EQ, NE, And, Or}
use Rattle.tables.specs.Operators.{Levels, binary_of, level}

-- every level is in range
op_range : (op : BinaryOp) → (1 ≤ precedence_level op) × (precedence_level op ≤ Levels)
op_range Mul = omega arith
op_range Div = omega arith
op_range Mod = omega arith
op_range Add = omega arith
op_range Sub = omega arith
op_range LShift = omega arith
op_range RShift = omega arith
op_range BitAnd = omega arith
op_range BitXor = omega arith
op_range BitOr = omega arith
op_range LT = omega arith
op_range GT = omega arith
op_range LE = omega arith
op_range GE = omega arith
op_range EQ = omega arith
op_range NE = omega arith
op_range And = omega arith
op_range Or = omega arith

pub level_range : (number : ℕ) → (1 ≤ level number) × (level number ≤ Levels)
unfolding level
level_range number = op_range (binary_of number)
