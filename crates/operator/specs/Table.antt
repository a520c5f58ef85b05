-- What the table of the operators has to say, and how much of a table says something else. Assumes nothing.
use Rattle.std.specs.Prelude.{List, [], ◌∷◌, ℕ, eqb, get_or}
use Rattle.operator.specs.Below.{sum_below, fails}
use Rattle.operator.specs.Operator.{unary_code, binary_code, op_level, assign_code, no_token}

-- how many numbers there are for a token kind
abbrev pub column_count : ℕ
column_count = 4

-- the numbers of a token kind: its unary operator, its binary operator, the level of that, its assignment operator
unfoldable pub decision : ℕ → ℕ → ℕ
decision kind column = get_or (unary_code kind ∷ binary_code kind ∷ op_level kind ∷ assign_code kind ∷ []) column 0

-- what a table has for a token kind
abbrev pub entry : List (List ℕ) → ℕ → ℕ → ℕ
entry table kind column = get_or (get_or table kind []) column 0

-- how many of a table's numbers are not those of the definitions, over all token kinds
unfoldable pub faults : List (List ℕ) → ℕ
faults table = sum_below (λ kind. sum_below (λ column. fails (eqb (entry table kind column) (decision kind column))) column_count) no_token
