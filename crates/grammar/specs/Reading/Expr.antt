-- Expressions from the weakest binding down to operands: assignments, tuples, binary operators. Definitions; they assume nothing.
-- `low` has the readings that count one depth more; every way back to an expression from within one passes through it.
use Rattle.std.specs.Prelude.{cond, List, ℕ, zero, suc, pred, eqb, length}
use Rattle.token.specs.Kind
use Rattle.operator.specs.Operator.{op_level, op_number, assign_code, level_count}
use Rattle.tree.specs.Tree.{Tree, Forest, one, snoc}
use Rattle.tree.specs.Node
use Rattle.grammar.specs.Reading.Pattern.{to_pattern}
use Rattle.grammar.specs.Reading.Number
use Rattle.grammar.specs.Reading.Result.{Error, Res, ok, fail, then, ifb}
use Rattle.grammar.specs.Reading.Look.{look, expect_pattern, try_assign_keyword, action}

-- `StmtList` as it is read: its statements, and its control or `absent`
pub record Stmts : Type 0 where
  pub suite : Forest
  pub control : Tree

-- where a statement list ends, by number: before `End`; in a branch of a conditional before `Elif` and `Else` too
abbrev pub until_end : ℕ
until_end = 0

abbrev pub until_branch : ℕ
until_branch = 1

-- the readings that document 01 counts for the depth, as they are with one depth less: an operand, the right side of an assignment, a statement list up to its end
pub record Depth : Type 0 where
  pub unary : List Error → List ℕ → Res Tree
  pub right : List Error → List ℕ → Res Tree
  pub list : ℕ → List Error → List ℕ → Res Stmts

-- the operators of the level l and their right sides, after a left side: they group leftward
unfoldable pub operators : (List Error → List ℕ → Res Tree) → ℕ → ℕ → Tree → List Error → List ℕ → Res Tree
operators operand l zero left q ts = fail Number.end_of_tokens q ts
operators operand l (suc n) left q ts =
    then q (look q ts) λ tok q₁ rest.
    ifb (eqb (op_level tok.kind) l)
    (λ _. then q (operand q rest) λ right q₂ r. operators operand l n (Node.binary_op (op_number tok.kind) left right) q₂ r)
    (λ _. ok left ts)

-- `parse_binop_expr_levels`; level 0 is `PRECEDENCE_END`
unfoldable pub binop_expr : Depth → ℕ → List Error → List ℕ → Res Tree
binop_expr low zero q ts = low.unary q ts
binop_expr low (suc l) q ts =
    then q (binop_expr low l q ts) λ left q₁ r.
    operators (binop_expr low l) (suc l) (length r) left q₁ r

-- `parse_inner_expr` and `parse_binop_expr`, from `PRECEDENCE_START` on
abbrev pub inner_expr : Depth → List Error → List ℕ → Res Tree
inner_expr low = binop_expr low level_count

-- the members of a tuple, after some; a last comma counts only before `CloseParen`
unfoldable pub members : Depth → ℕ → Forest → List Error → List ℕ → Res Tree
members low zero f q ts = fail Number.end_of_tokens q ts
members low (suc n) f q ts =
    then q (look q ts) λ tok q₁ rest.
    ifb (eqb tok.kind Kind.Comma)
    (λ _. then q (look q rest) λ tok₂ q₂ rest₂.
    ifb (eqb tok₂.kind Kind.CloseParen) (λ _. ok (Node.tuple f) rest) λ _.
    then q (inner_expr low q rest) λ t q₃ r. members low n (snoc f t) q₃ r)
    (λ _. ok (Node.tuple f) ts)

-- `parse_tuple_expr`
unfoldable pub tuple_expr : Depth → List Error → List ℕ → Res Tree
tuple_expr low q ts =
    then q (inner_expr low q ts) λ t q₁ r.
    then q₁ (look q₁ r) λ tok q₂ rest.
    ifb (eqb tok.kind Kind.Comma) (λ _. members low (length r) (one t) q₁ r) (λ _. ok t r)

-- a keyword, 1 + its action, that no assignment follows
abbrev pub keyword_alone : ℕ → Error
keyword_alone m =
    cond (eqb m (suc Node.assign_local)) Number.local_alone
    (cond (eqb m (suc Node.assign_non_local)) Number.nonlocal_alone
    (cond (eqb m (suc Node.decl_immutable)) Number.let_alone
    Number.var_alone))

-- `parse_assignment_expr`, and so `parse_expr_variant` and `parse_expr`
unfoldable pub expr : Depth → List Error → List ℕ → Res Tree
expr low q ts =
    then q (try_assign_keyword q ts) λ m q₁ r.
    then q₁ (tuple_expr low q₁ r) λ lhs q₂ s.
    then q₂ (look q₂ s) λ tok q₃ rest.
    ifb (eqb (assign_code tok.kind) 0)
    (λ _. ifb (eqb m 0) (λ _. ok lhs s) (λ _. fail (keyword_alone m) q₂ s))
    (λ _. then q₂ (expect_pattern Number.cannot_assign (to_pattern lhs) q₂ rest) λ p q₄ u.
    then q₂ (low.right q₂ u) λ rhs q₅ x. ok (Node.assignment (action m) (pred (assign_code tok.kind)) p rhs) x)
