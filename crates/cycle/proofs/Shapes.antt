-- Every expression that is read, cleanly or not, has one of the shapes that the code relies on. Assumes nothing.
use mathlib.Core.Path.{◌≡◌, refl, ap, sym, ◌∙◌, subst}
use mathlib.Core.Bool.{Bool, true, false, ◌||◌, true≢false}
use mathlib.Core.List.{List}
use Prim.Native.Nat.{ℕ, zero, suc, ◌<◌}
use native.Mathlib.Omega.{arith}
use lib.Dec.{eqb}
use lib.ListN.{length}
use Rattle.token.specs.declared.Token.{Token}
use Rattle.operator.specs.Operator.{level_count}
use Rattle.tree.specs.NodeKind
use Rattle.tree.specs.Tree.{Tree, Forest, node, none, more, one, snoc, kind_of}
use Rattle.tree.specs.Node
use Rattle.tree.specs.Records.{Small, Smalls}
use Rattle.grammar.specs.Reading.Result.{Error, Res, ok}
use Rattle.grammar.specs.Reading.Look.{look, expect, expect_pattern, try_assign_keyword}
use Rattle.grammar.specs.Reading.Pattern.{to_pattern}
use Rattle.grammar.specs.Reading.Expr.{Depth, operators, binop_expr, members, tuple_expr, expr}
use Rattle.grammar.specs.Reading.Primary.{group_expr, literal, atom, path, table_items, with_path, primary, unpack_expr}
use Rattle.grammar.specs.Reading.Block.{body, block_expr, expr_label, branches}
use Rattle.grammar.specs.Reading.Function.{params, function_def, function_assignment_target, function_decl_expr}
use Rattle.grammar.specs.Reading.Depth.{primary_expr, unary_expr, at_depth}
use Rattle.grammar.proofs.Laws.Keep.{Holds, k_ok, k_bad, k_fail, k_failed, k_stop, k_weaken, k_both, k_on, k_any, k_if}
use Rattle.grammar.proofs.Laws.Levels.Leveled.{Leveled}
use Rattle.grammar.proofs.Laws.Levels.Nonterminals.{depth_levels, tuple_leveled, expr_leveled}
use Rattle.scan.specs.Post.{As}
use Rattle.nodes.specs.Ends.{Shape, other, a_tuple, lone, unpacked}

-- what was read, as the code saw it
pub given : {A : Type 0} {P : A → Type 0} {q : List Error} {d : Res A} {q' : List Error} {r : List ℕ} {x : A} → Holds P d → As q d q' (ok x r) → P x
given {P = P} (k_ok p) a = subst P (let i = a.is in cc) p
given {P = P} (k_bad p) a = subst P (let i = a.is in cc) p
given (k_fail u) a = absurd (let i = a.is in let z : ◌≡◌ {A = ℕ} 0 1 = cc in omega arith)
given k_stop a = absurd (let i = a.is in let z : ◌≡◌ {A = ℕ} 0 1 = cc in omega arith)

pub shape_small : {t : Tree} → Shape t → Small t
unfolding Small
shape_small (other a b c d e) = (b, e)
shape_small (a_tuple a) = (omega arith, ((omega arith, a), tt))
shape_small lone = (omega arith, ((omega arith, tt), tt))
shape_small (unpacked a b) = (omega arith, (b, tt))

-- the kinds that are told apart
abbrev told : ℕ → Bool
told k = eqb k NodeKind.Absent || eqb k NodeKind.Unpack || eqb k NodeKind.Tuple

differs : {k n : ℕ} → told k ≡ false → told n ≡ true → k ≡ n → ⊥
differs p t e = true≢false (sym t ∙ ap (λ m. told m) (sym e) ∙ p)

-- the shapes without the bounds
data Root : Tree → Type 0 where
  plain : {k v : ℕ} {f : Forest} → told k ≡ false → Root (node k v f)
  tuple_root : {f : Forest} → Root (Node.tuple f)
  lone_root : Root (Node.unpack Node.absent)
  unpack_root : {t : Tree} → (kind_of t ≡ NodeKind.Absent → ⊥) → Root (Node.unpack t)

plain_shape : (k v : ℕ) (f : Forest) → told k ≡ false → k < 256 → Smalls f → Shape (node k v f)
plain_shape zero v f p h g = absurd (true≢false p)
plain_shape (suc k) v f p h g = other {k = suc k} (omega arith) h (differs p refl) (differs p refl) g

root_some : {t : Tree} → Root t → kind_of t ≡ NodeKind.Absent → ⊥
root_some (plain p) = differs p refl
root_some tuple_root = λ e. omega arith
root_some lone_root = λ e. omega arith
root_some (unpack_root h) = λ e. omega arith

root_shape : {t : Tree} → Root t → Small t → Shape t
unfolding Small
root_shape (plain p) s = plain_shape _ _ _ p s.0 s.1
root_shape tuple_root s = a_tuple s.1.0.1
root_shape lone_root s = lone
root_shape (unpack_root h) s = unpacked h s.1.0

-- both of what was read
holds_shape : {d : Res Tree} → Holds Root d → Holds Leveled d → Holds Shape d
holds_shape h g = k_weaken (λ t r x. root_shape x.0 x.1.small) (λ e r u. tt) (k_both h g)

operators_root : (operand : List Error → List ℕ → Res Tree) (l n : ℕ) (left : Tree) (q : List Error) (ts : List ℕ) → Root left → Holds Root (operators operand l n left q ts)
unfolding operators
operators_root operand l zero left q ts h = k_failed
operators_root operand l (suc n) left q ts h =
    k_any q (look q ts) λ tok q₁ rest. k_if _
    (λ _. k_any q (operand q rest) λ right q₂ r. operators_root operand l n _ q₂ r (plain refl))
    (λ _. k_ok h)

literal_root : (tok : Token) (q : List Error) (rest : List ℕ) → Holds Root (literal tok q rest)
unfolding literal
literal_root tok q rest =
    k_if _ (λ _. k_ok (plain refl)) λ _. k_if _ (λ _. k_ok (plain refl)) λ _. k_if _ (λ _. k_ok (plain refl)) λ _.
    k_if _ (λ _. k_ok (plain refl)) λ _. k_if _ (λ _. k_ok (plain refl)) λ _. k_if _ (λ _. k_ok (plain refl)) λ _.
    k_if _ (λ _. k_ok (plain refl)) λ _. k_failed

with_path_root : (a : Tree) (f : Forest) → Root a → Root (with_path a f)
with_path_root a none h = h
with_path_root a (more i f) h = plain refl

module _ (low : Depth) (U : (q : List Error) (ts : List ℕ) → Holds Root (low.unary q ts)) where
  binop_root : (l : ℕ) (q : List Error) (ts : List ℕ) → Holds Root (binop_expr low l q ts)
  unfolding binop_expr
  binop_root zero q ts = U q ts
  binop_root (suc l) q ts = k_on q (binop_root l q ts) λ t q₁ r x. operators_root (binop_expr low l) (suc l) (length r) t q₁ r x

  members_root : (n : ℕ) (f : Forest) (q : List Error) (ts : List ℕ) → Holds Root (members low n f q ts)
  unfolding members
  members_root zero f q ts = k_failed
  members_root (suc n) f q ts =
      k_any q (look q ts) λ tok q₁ rest. k_if _
      (λ _. k_any q (look q rest) λ tok₂ q₂ rest₂. k_if _ (λ _. k_ok tuple_root) λ _.
      k_any q (binop_expr low level_count q rest) λ t q₃ r. members_root n (snoc f t) q₃ r)
      (λ _. k_ok tuple_root)

  tuple_expr_root : (q : List Error) (ts : List ℕ) → Holds Root (tuple_expr low q ts)
  unfolding tuple_expr
  tuple_expr_root q ts =
      k_on q (binop_root level_count q ts) λ t q₁ r x.
      k_any q₁ (look q₁ r) λ tok q₂ rest. k_if _ (λ _. members_root (length r) (one t) q₁ r) (λ _. k_ok x)

  expr_root : (q : List Error) (ts : List ℕ) → Holds Root (expr low q ts)
  unfolding expr
  expr_root q ts =
      k_any q (try_assign_keyword q ts) λ m q₁ r.
      k_on q₁ (tuple_expr_root q₁ r) λ t q₂ s x.
      k_any q₂ (look q₂ s) λ tok q₃ rest. k_if _
      (λ _. k_if _ (λ _. k_ok x) (λ _. k_failed))
      (λ _. k_any q₂ (expect_pattern _ (to_pattern t) q₂ rest) λ p q₄ u.
      k_any q₂ (low.right q₂ u) λ e q₅ v. k_ok (plain refl))

module _ (low : Depth) where
  atom_root : (q : List Error) (ts : List ℕ) → Holds Root (atom low q ts)
  unfolding atom group_expr
  atom_root q ts =
      k_any q (look q ts) λ tok q₁ rest. k_if _
      (λ _. k_any q (look q rest) λ tok₂ q₂ rest₂. k_if _ (λ _. k_ok (plain refl)) λ _.
      k_any q (try_assign_keyword q rest) λ m q₃ r.
      k_any q₃ (expr low q₃ r) λ e q₄ s.
      k_any q₄ (expect _ _ q₄ s) λ tok₃ q₅ u. k_ok (plain refl))
      (λ _. literal_root tok q rest)

  primary_root : (q : List Error) (ts : List ℕ) → Holds Root (primary low q ts)
  unfolding primary
  primary_root q ts =
      k_on q (atom_root q ts) λ a q₁ r x.
      k_any q₁ (path low true (length r) none q₁ r) λ f q₂ s. k_ok (with_path_root a f x)

  unpack_expr_root : (q : List Error) (ts : List ℕ) → Holds Root (unpack_expr low q ts)
  unfolding unpack_expr
  unpack_expr_root q ts =
      k_any q (look q ts) λ tok q₁ rest. k_if _ (λ _. k_ok lone_root) λ _.
      k_on q (primary_root q ts) λ t q₂ r x.
      k_any q₂ (look q₂ r) λ tok₂ q₃ rest₂. k_if _
      (λ _. k_if _ (λ _. k_failed) (λ _. k_ok (unpack_root (root_some x))))
      (λ _. k_ok x)

  block_root : (l : ℕ) (q : List Error) (ts : List ℕ) → Holds Root (block_expr low l q ts)
  unfolding block_expr
  block_root l q ts = k_any q (body low q ts) λ s q₁ r. k_ok (plain refl)

  label_root : (l : ℕ) (q : List Error) (ts : List ℕ) → Holds Root (expr_label low l q ts)
  unfolding expr_label
  label_root l q ts = k_any q (look q ts) λ tok q₁ rest. k_if _ (λ _. block_root l q rest) (λ _. k_failed)

  branches_root : (n : ℕ) (f : Forest) (q : List Error) (ts : List ℕ) → Holds Root (branches low n f q ts)
  unfolding branches
  branches_root zero f q ts = k_failed
  branches_root (suc n) f q ts =
      k_any q (expr low q ts) λ c q₁ r.
      k_any q₁ (expect _ _ q₁ r) λ tok q₂ s.
      k_any q₂ (low.list 1 q₂ s) λ b q₃ u.
      k_any q₃ (look q₃ u) λ tok₂ q₄ rest. k_if _ (λ _. k_ok (plain refl)) λ _. k_if _
      (λ _. k_any q₃ (body low q₃ rest) λ e q₅ v. k_ok (plain refl))
      (λ _. branches_root n (snoc f _) q₃ rest)

  def_root : (name : ℕ) (q : List Error) (ts : List ℕ) → Holds Root (function_def low name q ts)
  unfolding function_def
  def_root name q ts =
      k_any q (expect _ _ q ts) λ tok q₁ r.
      k_any q₁ (params low (length r) _ q₁ r) λ ps q₂ s.
      k_any q₂ (expect _ _ q₂ s) λ tok₂ q₃ u.
      k_any q₃ (body low q₃ u) λ b q₄ v. k_ok (plain refl)

  decl_root : (q : List Error) (ts : List ℕ) → Holds Root (function_decl_expr low q ts)
  unfolding function_decl_expr
  decl_root q ts =
      k_any q (look q ts) λ tok q₁ rest. k_if _ (λ _. def_root 0 q ts) λ _.
      k_any q (function_assignment_target low q ts) λ p q₂ r.
      k_any q₂ (function_def low _ q₂ r) λ d q₃ s. k_ok (plain refl)

  primary_expr_root : (q : List Error) (ts : List ℕ) → Holds Root (primary_expr low q ts)
  unfolding primary_expr
  primary_expr_root q ts =
      k_any q (look q ts) λ tok q₁ rest.
      k_if _ (λ _. k_failed) λ _.
      k_if _ (λ _. decl_root q rest) λ _.
      k_if _ (λ _. branches_root (length rest) none q rest) λ _.
      k_if _ (λ _. block_root 0 q rest) λ _.
      k_if _ (λ _. k_any q (table_items low (length rest) none q rest) λ f q₂ r. k_ok (plain refl)) λ _.
      k_if _ (λ _. label_root _ q rest) (λ _. unpack_expr_root q ts)

  unary_expr_root : (q : List Error) (ts : List ℕ) → Holds Root (unary_expr low q ts)
  unfolding unary_expr
  unary_expr_root q ts =
      k_any q (look q ts) λ tok q₁ rest. k_if _
      (λ _. primary_expr_root q ts)
      (λ _. k_any q (low.unary q rest) λ t q₂ r. k_ok (plain refl))

depth_root : (d : ℕ) (q : List Error) (ts : List ℕ) → Holds Root ((at_depth d).unary q ts)
unfolding at_depth
depth_root zero q ts = k_stop
depth_root (suc d) q ts = unary_expr_root (at_depth d) q ts

pub tuple_shape : (d : ℕ) (q : List Error) (ts : List ℕ) → Holds Shape (tuple_expr (at_depth d) q ts)
tuple_shape d q ts = holds_shape (tuple_expr_root (at_depth d) (depth_root d) q ts) (tuple_leveled (at_depth d) (depth_levels d) q ts)

pub expr_shape : (d : ℕ) (q : List Error) (ts : List ℕ) → Holds Shape (expr (at_depth d) q ts)
expr_shape d q ts = holds_shape (expr_root (at_depth d) (depth_root d) q ts) (expr_leveled (at_depth d) (depth_levels d) q ts)
