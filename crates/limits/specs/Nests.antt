-- The loops and jumps whose records are put, as trees. Definitions; they assume nothing.
use Rattle.std.specs.Prelude.{List, [], ◌∷◌, ◌++◌, ℕ, zero, suc, ◌-◌, Option, Some, None}
use Rattle.tree.specs.Tree.{Tree, node, none, one, two, three, all_records}
use Rattle.tree.specs.Node.{absent, expression, loop, while_loop, stmt_list, continue, break, if_expr, function_def, expr_block, conditional_branch, signature_def, identifier}
use Rattle.limits.specs.declared.jumps.Form.{Form}
use Rattle.limits.specs.declared.jumps.Form.TheVariants.{Break, Continue, Among, Condition}
use Rattle.limits.specs.declared.jumps.Jump.{Jump}

-- the labels of the outermost loop, and of none
abbrev pub outermost : ℕ
outermost = 4294967296

abbrev pub other : ℕ
other = 4294967295

-- the number of a jump's record in the innermost loop
abbrev pub record_number : Form → ℕ
record_number Break = 2
record_number Continue = 1
record_number Among = 4
record_number Condition = 2

-- what is put of a statement list before its own record: the records of its list and of its control
abbrev pub parts : Tree → List ℕ
parts (node k v f) = all_records f

-- the name `a` as a statement
abbrev pub name : Tree
name = expression (identifier 7)

abbrev pub empty : Tree
empty = stmt_list none absent

-- `if a then continue LABEL end`
abbrev pub if_continue : ℕ → Tree
if_continue label = if_expr (one (conditional_branch (identifier 7) (expr_block (stmt_list none (continue label)) absent))) absent

-- the statement list that a jump stands in, by its form and label
abbrev pub jump_in : Form → ℕ → Tree
jump_in Break label = stmt_list none (break label absent)
jump_in Continue label = stmt_list none (continue label)
jump_in Among label = stmt_list (three name (expression (if_continue label)) name) absent
jump_in Condition label = stmt_list (one (while_loop other (if_continue label) empty)) absent

abbrev pub innermost : Option Jump → Tree
innermost None = empty
innermost (Some jump) = jump_in jump.form jump.label

-- the statement list of so many loops, one in the other, round another statement list; their labels are from 1 on, the innermost the first
unfoldable pub loops : ℕ → Tree → Tree
loops zero s = s
loops (suc n) s = stmt_list (one (loop (suc n) (loops n s))) absent

-- what is put of them behind the parts of that statement list
unfoldable pub loop_ends : ℕ → List ℕ
loop_ends zero = []
loop_ends (suc n) = loop_ends n ++ 519 ∷ 0 ∷ 259 ∷ suc n ∷ 257 ∷ 0 ∷ 0 ∷ 0 ∷ []

-- so many loops with the outermost
abbrev pub nest : ℕ → Tree → Tree
nest times s = loop outermost (loops (times - 1) s)

-- a function as a statement, with a jump in so many loops but the outermost
abbrev pub function : Form → ℕ → ℕ → Tree
function form label inside =
    stmt_list (one (expression (function_def (signature_def 0 none none absent) (expr_block (loops (inside - 1) (jump_in form label)) absent)))) absent

-- a loop without a label, in which an if with a continue stands before so many loops
abbrev pub before : ℕ → ℕ → Tree
before label times = loop 0 (stmt_list (two (expression (if_continue label)) (nest times empty)) absent)

-- a loop without a label, in which a continue stands in so many loops, and one to the same label behind them
abbrev pub behind : ℕ → ℕ → Tree
behind label times = loop 0 (stmt_list (one (nest times (jump_in Continue label))) (continue label))
