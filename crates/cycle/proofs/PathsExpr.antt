-- Operands and what stands above them (grammar's Reading/Expr.antt and Level.antt), one step each, as the code goes: an equation for each way through a reading. Assumes nothing.
use mathlib.Core.Path.{◌≡◌, refl, sym, ap, ◌∙◌}
use mathlib.Core.List.{List}
use Prim.Native.Nat.{ℕ, zero, suc, pred, ◌+◌, ◌*◌, ◌-◌, ◌≤◌}
use native.Mathlib.Omega.{arith}
use lib.Dec.{eqb}
use lib.ListN.{length, drop}
use borrow.Author.Tests.{eq-eqb, ne_eqb}
use Rattle.token.specs.Kind
use Rattle.token.specs.declared.Token.{Token}
use Rattle.std.proofs.Common.{Option, Some, None}
use Rattle.operator.specs.Operator.{which_unary_op, which_assignment_op, unary_number, assignment_number, unary_code, assign_code}
use Rattle.operator.specs.declared.UnaryOp.{UnaryOp}
use Rattle.operator.specs.declared.AssignmentOp.{AssignmentOp}
use Rattle.tree.specs.NodeKind
use Rattle.tree.specs.Tree.{Tree, Forest, node, none, more, one, two, snoc}
use Rattle.tree.specs.Node
use Rattle.grammar.specs.Reading.Limit.{too_deep}
use Rattle.grammar.specs.Reading.Result.{Res, ok, fail, stop, then, ifb, Error}
use Rattle.grammar.specs.Reading.Number
use Rattle.grammar.specs.Reading.Pattern.{to_pattern}
use Rattle.grammar.specs.Reading.Look.{look, expect_pattern, try_assign_keyword, action}
use Rattle.grammar.specs.Reading.Expr.{Depth, binop_expr, inner_expr, members, tuple_expr, keyword_alone, expr}
use Rattle.grammar.specs.Reading.Stmt.{stmts}
use Rattle.grammar.specs.Reading.Depth.{primary_expr, unary_expr, at_depth}
use Rattle.grammar.proofs.Laws.Facts.{if_same}
use Rattle.cycle.specs.Parts.{tail}
use Rattle.scan.specs.Post.{Taken}
use Rattle.nodes.proofs.Algebra.{then_fail, then_ok, then_then, then_if, then_same, look_then}
use Rattle.scan.proofs.Laws.{Looks}
use Rattle.scan.proofs.Looking.{counted}
use Rattle.scan.proofs.Text.{left}

pub suc_pred : (n : ℕ) → (n ≡ 0 → ⊥) → suc (n - 1) ≡ n
suc_pred n h = omega arith

-- the readings of each depth
module _ (d : ℕ) (q : List Error) (ts : List ℕ) where
  unary_zero : (at_depth 0).unary q ts ≡ stop too_deep
  unfolding at_depth
  unary_zero = refl

  unary_suc : (at_depth (suc d)).unary q ts ≡ unary_expr (at_depth d) q ts
  unfolding at_depth
  unary_suc = refl

  right_zero : (at_depth 0).right q ts ≡ stop too_deep
  unfolding at_depth
  right_zero = refl

  right_suc : (at_depth (suc d)).right q ts ≡ expr (at_depth d) q ts
  unfolding at_depth
  right_suc = refl

  module _ (end : ℕ) where
    list_zero : (at_depth 0).list end q ts ≡ stop too_deep
    unfolding at_depth
    list_zero = refl

    list_suc : (at_depth (suc d)).list end q ts ≡ stmts (at_depth d) end (length ts) none q ts
    unfolding at_depth
    list_suc = refl

pub unary_stops : (d : ℕ) (q : List Error) (ts : List ℕ) → d ≡ 0 → (at_depth d).unary q ts ≡ stop too_deep
unary_stops d q ts e = rw e (unary_zero d q ts)

pub unary_step : (d : ℕ) (q : List Error) (ts : List ℕ) → (d ≡ 0 → ⊥) → (at_depth d).unary q ts ≡ unary_expr (at_depth (d - 1)) q ts
unary_step d q ts h = ap (λ (n : ℕ). (at_depth n).unary q ts) (sym (suc_pred d h)) ∙ unary_suc (d - 1) q ts

pub right_stops : (d : ℕ) (q : List Error) (ts : List ℕ) → d ≡ 0 → (at_depth d).right q ts ≡ stop too_deep
right_stops d q ts e = rw e (right_zero d q ts)

pub right_step : (d : ℕ) (q : List Error) (ts : List ℕ) → (d ≡ 0 → ⊥) → (at_depth d).right q ts ≡ expr (at_depth (d - 1)) q ts
right_step d q ts h = ap (λ (n : ℕ). (at_depth n).right q ts) (sym (suc_pred d h)) ∙ right_suc (d - 1) q ts

pub list_stops : (d end : ℕ) (q : List Error) (ts : List ℕ) → d ≡ 0 → (at_depth d).list end q ts ≡ stop too_deep
list_stops d end q ts e = rw e (list_zero d q ts end)

pub list_step : (d end : ℕ) (q : List Error) (ts : List ℕ) → (d ≡ 0 → ⊥) → (at_depth d).list end q ts ≡ stmts (at_depth (d - 1)) end (length ts) none q ts
list_step d end q ts h = ap (λ (n : ℕ). (at_depth n).list end q ts) (sym (suc_pred d h)) ∙ list_suc (d - 1) q ts end

-- what holds no operator is `None`
pub none_found : {A : Type 0} {w : Option A} → ((op : A) → w ≡ Some op → ⊥) → w ≡ None
none_found {w = Some op} h = absurd (h op refl)
none_found {w = None} h = refl

-- operands
pub unary_looks : (low : Depth) (q : List Error) (ts : List ℕ) → Looks q ts (unary_expr low q ts)
unfolding unary_expr
unary_looks low q ts = record { go = _; is = refl }

module _ (low : Depth) (q : List Error) {T : List ℕ} {pos k n v : ℕ} (at : Taken T pos k n v) {w : Option UnaryOp} (is : w ≡ which_unary_op k) where
  pub unary_none : ((op : UnaryOp) → w ≡ Some op → ⊥) → unary_expr low q (drop pos T) ≡ primary_expr low q (drop pos T)
  unfolding unary_expr then ifb unary_code
  unary_none h = rw (at.same, ← is, none_found h)

  pub unary_some : {op : UnaryOp} {c : ℕ} → w ≡ Some op → c ≡ unary_number op → unary_expr low q (drop pos T) ≡ then q (low.unary q (drop (pos + 2) T)) (λ t q₂ r. ok (Node.unary_op c t) r)
  unfolding unary_expr then ifb unary_code
  unary_some {op} e i = rw (at.same, ← is, e, ne_eqb (suc (unary_number op)) 0 (omega arith), i)

-- binary operators
binop_zero : (low : Depth) (q : List Error) (ts : List ℕ) → binop_expr low 0 q ts ≡ low.unary q ts
unfolding binop_expr
binop_zero low q ts = refl

pub binop_unary : (low : Depth) (l : ℕ) (q : List Error) (ts : List ℕ) → l ≡ 0 → binop_expr low l q ts ≡ low.unary q ts
binop_unary low l q ts e = rw e (binop_zero low q ts)

-- tuples: the members behind the first are `tail`
members_tail : (low : Depth) (n : ℕ) (t : Tree) (f : Forest) (q : List Error) (ts : List ℕ) → members low n (more t f) q ts ≡ then q (tail low n f q ts) (λ g q₁ r. ok (Node.tuple (more t g)) r)
unfolding members tail snoc
members_tail low zero t f q ts = sym (then_fail q _)
members_tail low (suc n) t f q ts =
    sym (look_then q ts _ _ _ λ tok rest.
    then_if q _ _ _ _ ∙ if_same _ (λ u. look_then q rest _ _ _ λ tok₂ rest₂.
    then_if q _ _ _ _ ∙ if_same _ (λ u. then_ok q _) (λ u. then_then q _ _ _ ∙ then_same q _ λ x q₃ r. sym (members_tail low n t (snoc f x) q₃ r))) (λ u. then_ok q _))

abbrev pub tuple_go : Depth → Tree → List Error → List ℕ → Res Tree
tuple_go low t q r = then q (look q r) λ tok q₂ rest. ifb (eqb tok.kind Kind.Comma) (λ _. members low (length r) (one t) q r) (λ _. ok t r)

pub tuple_step : (low : Depth) (q : List Error) (ts : List ℕ) → tuple_expr low q ts ≡ then q (inner_expr low q ts) (tuple_go low)
unfolding tuple_expr
tuple_step low q ts = refl

pub tuple_looks : (low : Depth) (t : Tree) (q : List Error) (ts : List ℕ) → Looks q ts (tuple_go low t q ts)
tuple_looks low t q ts = record { go = _; is = refl }

module _ (low : Depth) (t : Tree) (q : List Error) {T : List ℕ} {pos k n v : ℕ} (at : Taken T pos k n v) where
  pub tuple_one : (k ≡ Kind.Comma → ⊥) → tuple_go low t q (drop pos T) ≡ ok t (drop pos T)
  unfolding then ifb
  tuple_one e = rw (at.same, ne_eqb _ _ e)

  pub tuple_more : k ≡ Kind.Comma → tuple_go low t q (drop pos T) ≡ then q (tail low (length (drop pos T)) none q (drop pos T)) (λ g q₁ r. ok (Node.tuple (more t g)) r)
  unfolding then ifb
  tuple_more e = rw (at.same, eq-eqb _ _ e) (members_tail low (length (drop pos T)) t none q (drop pos T))

-- the members behind the first
module _ (low : Depth) (f : Forest) (q : List Error) where
  abbrev tail_on : List ℕ → ℕ → Token → List Error → List ℕ → Res Forest
  tail_on ts n tok q₁ rest = ifb (eqb tok.kind Kind.Comma) (λ _. then q (look q rest) λ tok₂ q₂ rest₂. ifb (eqb tok₂.kind Kind.CloseParen) (λ _. ok f rest) λ _. then q (inner_expr low q rest) λ t q₃ r. tail low n (snoc f t) q₃ r) (λ _. ok f ts)

  tail_step : (fuel : ℕ) (ts : List ℕ) → length ts ≤ fuel → tail low fuel f q ts ≡ then q (look q ts) (tail_on ts (fuel - 1))
  unfolding tail
  tail_step fuel ts h = counted q ts (λ n. tail low n f q ts) (tail_on ts) refl (λ n. refl) fuel h

  pub tail_looks : (T : List ℕ) (fuel p : ℕ) → length T ≤ p + fuel → Looks q (drop p T) (tail low fuel f q (drop p T))
  tail_looks T fuel p enough = record { go = _; is = tail_step fuel (drop p T) (left T p fuel enough) }

  module _ {T : List ℕ} (fuel p : ℕ) (enough : length T ≤ p + fuel) {k n v : ℕ} (at : Taken T p k n v) where
    pub tail_end : (k ≡ Kind.Comma → ⊥) → tail low fuel f q (drop p T) ≡ ok f (drop p T)
    unfolding then ifb
    tail_end e = tail_step fuel (drop p T) (left T p fuel enough) ∙ rw (at.same, ne_eqb _ _ e)

    pub tail_comma : k ≡ Kind.Comma → tail low fuel f q (drop p T) ≡ then q (look q (drop (p + 2) T)) (λ tok₂ q₂ rest₂. ifb (eqb tok₂.kind Kind.CloseParen) (λ _. ok f (drop (p + 2) T)) λ _. then q (inner_expr low q (drop (p + 2) T)) λ t q₃ r. tail low (fuel - 1) (snoc f t) q₃ r)
    unfolding then ifb
    tail_comma e = tail_step fuel (drop p T) (left T p fuel enough) ∙ rw (at.same, eq-eqb _ _ e)

    module _ (e : k ≡ Kind.Comma) {k₂ n₂ v₂ : ℕ} (at₂ : Taken T (p + 2) k₂ n₂ v₂) where
      pub tail_last : k₂ ≡ Kind.CloseParen → tail low fuel f q (drop p T) ≡ ok f (drop (p + 2) T)
      unfolding then ifb
      tail_last i = tail_comma e ∙ rw (at₂.same, eq-eqb _ _ i)

      pub tail_more : (k₂ ≡ Kind.CloseParen → ⊥) → tail low fuel f q (drop p T) ≡ then q (inner_expr low q (drop (p + 2) T)) (λ t q₃ r. tail low (fuel - 1) (snoc f t) q₃ r)
      unfolding then ifb
      tail_more i = tail_comma e ∙ rw (at₂.same, ne_eqb _ _ i)

-- assignments
abbrev pub expr_op : Depth → ℕ → Tree → List Error → List ℕ → Res Tree
expr_op low m lhs q s =
    then q (look q s) λ tok q₃ rest.
    ifb (eqb (assign_code tok.kind) 0)
    (λ _. ifb (eqb m 0) (λ _. ok lhs s) (λ _. fail (keyword_alone m) q s))
    (λ _. then q (expect_pattern Number.cannot_assign (to_pattern lhs) q rest) λ p q₄ u.
    then q (low.right q u) λ rhs q₅ x. ok (Node.assignment (action m) (pred (assign_code tok.kind)) p rhs) x)

abbrev pub expr_lhs : Depth → ℕ → List Error → List ℕ → Res Tree
expr_lhs low m q r = then q (tuple_expr low q r) (expr_op low m)

pub expr_step : (low : Depth) (q : List Error) (ts : List ℕ) → expr low q ts ≡ then q (try_assign_keyword q ts) (expr_lhs low)
unfolding expr
expr_step low q ts = refl

module _ (low : Depth) (m : ℕ) (lhs : Tree) (q : List Error) {T : List ℕ} {pos k n v : ℕ} (at : Taken T pos k n v) {w : Option AssignmentOp} (is : w ≡ which_assignment_op k) where
  pub expr_plain : ((op : AssignmentOp) → w ≡ Some op → ⊥) → m ≡ 0 → expr_op low m lhs q (drop pos T) ≡ ok lhs (drop pos T)
  unfolding then ifb assign_code
  expr_plain h i = rw (at.same, ← is, none_found h, eq-eqb _ _ i)

  pub expr_alone : ((op : AssignmentOp) → w ≡ Some op → ⊥) → (m ≡ 0 → ⊥) → expr_op low m lhs q (drop pos T) ≡ fail (keyword_alone m) q (drop pos T)
  unfolding then ifb assign_code
  expr_alone h i = rw (at.same, ← is, none_found h, ne_eqb _ _ i)

  pub expr_assign : {op : AssignmentOp} {b c : ℕ} → w ≡ Some op → b ≡ action m → c ≡ assignment_number op → expr_op low m lhs q (drop pos T) ≡ then q (expect_pattern Number.cannot_assign (to_pattern lhs) q (drop (pos + 2) T)) (λ p q₄ u. then q (low.right q u) λ rhs q₅ x. ok (node NodeKind.Assignment (b + 4 * c) (two p rhs)) x)
  unfolding then ifb assign_code
  expr_assign {op} e i j = rw (at.same, ← is, e, ne_eqb (suc (assignment_number op)) 0 (omega arith), i, j)
