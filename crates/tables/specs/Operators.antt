-- The operators by the numbers that records hold, and the number of their levels. The tokens of the numbers are the crate operator's. Definitions; they assume nothing.
use Rattle.std.specs.Prelude.{ℕ, eqb}
use Rattle.operator.specs.Operator.{precedence_level, no_token, level_count}
use Rattle.operator.specs.declared.BinaryOp.{BinaryOp}
use Rattle.operator.specs.declared.BinaryOp.TheVariants.{Mul, Div, Mod, Add, Sub, LShift, RShift, BitAnd, BitXor, BitOr, LT, GT, LE, GE, EQ, NE, And, Or}
use Rattle.tables.specs.Choice.{when◌then◌else◌}

abbrev pub NoToken : ℕ
NoToken = no_token

-- How many levels there are, and the last operator's number: classes and demands are computed from them.
abbrev pub Levels : ℕ
Levels = level_count

abbrev pub LastBinary : ℕ
LastBinary = 17

unfoldable pub binary_of : ℕ → BinaryOp
binary_of number =
    when eqb number 0 then Mul else
    when eqb number 1 then Div else
    when eqb number 2 then Mod else
    when eqb number 3 then Add else
    when eqb number 4 then Sub else
    when eqb number 5 then LShift else
    when eqb number 6 then RShift else
    when eqb number 7 then BitAnd else
    when eqb number 8 then BitXor else
    when eqb number 9 then BitOr else
    when eqb number 10 then LT else
    when eqb number 11 then GT else
    when eqb number 12 then LE else
    when eqb number 13 then GE else
    when eqb number 14 then EQ else
    when eqb number 15 then NE else
    when eqb number 16 then And else
    Or

-- from 1, the tightest, to the number of levels
unfoldable pub level : ℕ → ℕ
level number = precedence_level (binary_of number)
