-- Lines of the table by the definitions, computed, and tables that say something else. Assumes nothing.
use Rattle.std.specs.Prelude.{◌≡◌, refl, List, [], ◌∷◌, map, ℕ, zero, suc, set, drop}
use Rattle.token.specs.Kind
use Rattle.operator.specs.Operator.{which_unary_op, which_binary_op, which_assignment_op, unary_code, binary_code, op_level, assign_code, no_token}
use Rattle.operator.specs.Table.{decision, faults}

-- a kind's line, and the table of all kinds, by the definitions
abbrev line : ℕ → List ℕ
line kind = decision kind 0 ∷ decision kind 1 ∷ decision kind 2 ∷ decision kind 3 ∷ []

abbrev lines_from : ℕ → ℕ → List (List ℕ)
lines_from kind zero = []
lines_from kind (suc n) = line kind ∷ lines_from (suc kind) n

abbrev table : List (List ℕ)
table = lines_from 0 no_token

-- a kind with two operators each of which has its own number, both ends of the numbers and levels, kinds beside an operator's, and kinds that no token has
pub lines_tried :
    map line (Kind.OpAdd ∷ Kind.OpSub ∷ Kind.OpMul ∷ Kind.OpExp ∷ Kind.OpInv ∷ Kind.OpXor ∷ Kind.OpOr ∷ Kind.OpXorAssign ∷ Kind.OpOrAssign ∷ Kind.OpAssign ∷ Kind.OpAccess ∷ Kind.Or ∷ Kind.Not ∷ Kind.LexerError ∷ 77 ∷ 18446744073709551615 ∷ [])
    ≡ (2 ∷ 4 ∷ 2 ∷ 0 ∷ []) ∷ (1 ∷ 5 ∷ 2 ∷ 0 ∷ []) ∷ (0 ∷ 1 ∷ 1 ∷ 0 ∷ []) ∷ (0 ∷ 0 ∷ 0 ∷ 0 ∷ []) ∷ (3 ∷ 0 ∷ 0 ∷ 0 ∷ []) ∷ (0 ∷ 9 ∷ 5 ∷ 0 ∷ []) ∷ (0 ∷ 10 ∷ 6 ∷ 0 ∷ []) ∷ (0 ∷ 0 ∷ 0 ∷ 10 ∷ []) ∷ (0 ∷ 0 ∷ 0 ∷ 11 ∷ []) ∷ (0 ∷ 0 ∷ 0 ∷ 1 ∷ []) ∷ (0 ∷ 0 ∷ 0 ∷ 0 ∷ []) ∷ (0 ∷ 18 ∷ 10 ∷ 0 ∷ []) ∷ (4 ∷ 0 ∷ 0 ∷ 0 ∷ []) ∷ (0 ∷ 0 ∷ 0 ∷ 0 ∷ []) ∷ (0 ∷ 0 ∷ 0 ∷ 0 ∷ []) ∷ (0 ∷ 0 ∷ 0 ∷ 0 ∷ []) ∷ []
unfolding decision unary_code binary_code op_level assign_code which_unary_op which_binary_op which_assignment_op
lines_tried = refl

-- the faults of the definitions' own table, of one in which `-` is taken for Add, of one in which besides `and` binds as weakly as `or` and `=` is none, of one that begins a kind too late
pub faults_tried :
    (faults table ≡ 0)
    × (faults (set table Kind.OpSub (1 ∷ 4 ∷ 2 ∷ 0 ∷ [])) ≡ 1)
    × (faults (set (set (set table Kind.OpSub (1 ∷ 4 ∷ 2 ∷ 0 ∷ [])) Kind.And (0 ∷ 17 ∷ 10 ∷ 0 ∷ [])) Kind.OpAssign (0 ∷ 0 ∷ 0 ∷ 0 ∷ [])) ≡ 3)
    × (faults (drop 1 table) ≡ 56)
unfolding faults decision unary_code binary_code op_level assign_code which_unary_op which_binary_op which_assignment_op
faults_tried = (refl, refl, refl, refl)
