-- The operators: which one a token kind is, its level and its number, and the token kinds of the numbers. Assumes nothing.
use Rattle.std.specs.Prelude.{Bool, cond, Option, Some, None, List, [], ◌∷◌, ℕ, suc, eqb, get_or}
use Rattle.token.specs.Kind
use Rattle.operator.specs.declared.UnaryOp.{UnaryOp}
use Rattle.operator.specs.declared.UnaryOp.TheVariants.{Neg, Pos, Inv, Not}
use Rattle.operator.specs.declared.BinaryOp.{BinaryOp}
use Rattle.operator.specs.declared.BinaryOp.TheVariants.{Mul, Div, Mod, Add, Sub, LShift, RShift, BitAnd, BitXor, BitOr, LT, GT, LE, GE, EQ, NE, And, Or}
use Rattle.operator.specs.declared.AssignmentOp.{AssignmentOp}
use Rattle.operator.specs.declared.AssignmentOp.TheVariants.{Plain, With}

-- so that a table reads line by line
infixr 5 when◌then◌else◌
abbrev when◌then◌else◌ : {A : Type 0} → Bool → A → A → A
when b then x else y = cond b x y

unfoldable pub which_unary_op : ℕ → Option UnaryOp
which_unary_op kind =
    when eqb kind Kind.OpAdd then Some Pos else
    when eqb kind Kind.OpSub then Some Neg else
    when eqb kind Kind.OpInv then Some Inv else
    when eqb kind Kind.Not then Some Not else
    None

unfoldable pub which_binary_op : ℕ → Option BinaryOp
which_binary_op kind =
    when eqb kind Kind.OpMul then Some Mul else
    when eqb kind Kind.OpDiv then Some Div else
    when eqb kind Kind.OpMod then Some Mod else
    when eqb kind Kind.OpAdd then Some Add else
    when eqb kind Kind.OpSub then Some Sub else
    when eqb kind Kind.OpLShift then Some LShift else
    when eqb kind Kind.OpRShift then Some RShift else
    when eqb kind Kind.OpAnd then Some BitAnd else
    when eqb kind Kind.OpXor then Some BitXor else
    when eqb kind Kind.OpOr then Some BitOr else
    when eqb kind Kind.OpLT then Some LT else
    when eqb kind Kind.OpGT then Some GT else
    when eqb kind Kind.OpLE then Some LE else
    when eqb kind Kind.OpGE then Some GE else
    when eqb kind Kind.OpEQ then Some EQ else
    when eqb kind Kind.OpNE then Some NE else
    when eqb kind Kind.And then Some And else
    when eqb kind Kind.Or then Some Or else
    None

unfoldable pub which_assignment_op : ℕ → Option AssignmentOp
which_assignment_op kind =
    when eqb kind Kind.OpAssign then Some Plain else
    when eqb kind Kind.OpAddAssign then Some (With Add) else
    when eqb kind Kind.OpSubAssign then Some (With Sub) else
    when eqb kind Kind.OpMulAssign then Some (With Mul) else
    when eqb kind Kind.OpDivAssign then Some (With Div) else
    when eqb kind Kind.OpModAssign then Some (With Mod) else
    when eqb kind Kind.OpAndAssign then Some (With BitAnd) else
    when eqb kind Kind.OpOrAssign then Some (With BitOr) else
    when eqb kind Kind.OpXorAssign then Some (With BitXor) else
    when eqb kind Kind.OpLShiftAssign then Some (With LShift) else
    when eqb kind Kind.OpRShiftAssign then Some (With RShift) else
    None

-- how many levels there are
abbrev pub level_count : ℕ
level_count = 10

-- from 1, which binds the tightest, to `level_count`
abbrev pub precedence_level : BinaryOp → ℕ
precedence_level Mul = 1
precedence_level Div = 1
precedence_level Mod = 1
precedence_level Add = 2
precedence_level Sub = 2
precedence_level LShift = 3
precedence_level RShift = 3
precedence_level BitAnd = 4
precedence_level BitXor = 5
precedence_level BitOr = 6
precedence_level LT = 7
precedence_level GT = 7
precedence_level LE = 7
precedence_level GE = 7
precedence_level EQ = 8
precedence_level NE = 8
precedence_level And = 9
precedence_level Or = 10

-- an operator's number is its place in its enum
abbrev pub unary_number : UnaryOp → ℕ
unary_number Neg = 0
unary_number Pos = 1
unary_number Inv = 2
unary_number Not = 3

abbrev pub binary_number : BinaryOp → ℕ
binary_number Mul = 0
binary_number Div = 1
binary_number Mod = 2
binary_number Add = 3
binary_number Sub = 4
binary_number LShift = 5
binary_number RShift = 6
binary_number BitAnd = 7
binary_number BitXor = 8
binary_number BitOr = 9
binary_number LT = 10
binary_number GT = 11
binary_number LE = 12
binary_number GE = 13
binary_number EQ = 14
binary_number NE = 15
binary_number And = 16
binary_number Or = 17

-- an assignment's number is 0 if it is plain, else 1 + the number of its operator
abbrev pub assignment_number : AssignmentOp → ℕ
assignment_number Plain = 0
assignment_number (With op) = suc (binary_number op)

-- the level of the binary operator that a token kind is, 0 if it is none
abbrev pub level_found : Option BinaryOp → ℕ
level_found (Some op) = precedence_level op
level_found None = 0

unfoldable pub op_level : ℕ → ℕ
op_level kind = level_found (which_binary_op kind)

-- 0 if a token kind is no binary operator, else 1 + its number
abbrev pub binary_found : Option BinaryOp → ℕ
binary_found (Some op) = suc (binary_number op)
binary_found None = 0

unfoldable pub binary_code : ℕ → ℕ
binary_code kind = binary_found (which_binary_op kind)

-- the number of the binary operator that a token kind is, 0 if it is none
abbrev pub number_found : Option BinaryOp → ℕ
number_found (Some op) = binary_number op
number_found None = 0

unfoldable pub op_number : ℕ → ℕ
op_number kind = number_found (which_binary_op kind)

-- 0 if a token kind is no unary operator, else 1 + its number
abbrev pub unary_found : Option UnaryOp → ℕ
unary_found (Some op) = suc (unary_number op)
unary_found None = 0

unfoldable pub unary_code : ℕ → ℕ
unary_code kind = unary_found (which_unary_op kind)

-- 0 if a token kind is no assignment operator, 1 if it is the plain one, else 2 + the number of its binary operator
abbrev pub assignment_found : Option AssignmentOp → ℕ
assignment_found (Some op) = suc (assignment_number op)
assignment_found None = 0

unfoldable pub assign_code : ℕ → ℕ
assign_code kind = assignment_found (which_assignment_op kind)

-- 77 is the kind of no token
abbrev pub no_token : ℕ
no_token = 77

-- the token kinds of the binary operators, by number
abbrev pub op_tokens : List ℕ
op_tokens = Kind.OpMul ∷ Kind.OpDiv ∷ Kind.OpMod ∷ Kind.OpAdd ∷ Kind.OpSub ∷ Kind.OpLShift ∷ Kind.OpRShift ∷ Kind.OpAnd ∷ Kind.OpXor ∷ Kind.OpOr ∷ Kind.OpLT ∷ Kind.OpGT ∷ Kind.OpLE ∷ Kind.OpGE ∷ Kind.OpEQ ∷ Kind.OpNE ∷ Kind.And ∷ Kind.Or ∷ []

unfoldable pub op_token : ℕ → ℕ
op_token number = get_or op_tokens number no_token

-- the level of the binary operator with this number, 0 if there is none
unfoldable pub number_level : ℕ → ℕ
number_level number = op_level (op_token number)

-- the token kinds of the unary operators, by number
abbrev pub unary_tokens : List ℕ
unary_tokens = Kind.OpSub ∷ Kind.OpAdd ∷ Kind.OpInv ∷ Kind.Not ∷ []

unfoldable pub unary_token : ℕ → ℕ
unary_token number = get_or unary_tokens number no_token

-- the token kinds of the assignments: the plain one, and at 1 + a number the one with that binary operator, where there is one
abbrev pub assign_tokens : List ℕ
assign_tokens = Kind.OpAssign ∷ Kind.OpMulAssign ∷ Kind.OpDivAssign ∷ Kind.OpModAssign ∷ Kind.OpAddAssign ∷ Kind.OpSubAssign ∷ Kind.OpLShiftAssign ∷ Kind.OpRShiftAssign ∷ Kind.OpAndAssign ∷ Kind.OpXorAssign ∷ Kind.OpOrAssign ∷ []

unfoldable pub assign_token : ℕ → ℕ
assign_token place = get_or assign_tokens place no_token
