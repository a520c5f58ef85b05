-- Blocks, loops and statements (grammar's Reading/Block.antt and Stmt.antt), one step each, as the code goes: an equation for each way through a reading. Assumes nothing.
use mathlib.Core.Path.{◌≡◌, refl, sym, ap, ◌∙◌}
use mathlib.Core.Bool.{Bool, true, false, cond, ◌||◌}
use mathlib.Core.List.{List, ◌++◌}
use Prim.Native.Nat.{ℕ, suc, ◌+◌}
use native.Mathlib.Omega.{arith}
use lib.Dec.{eqb}
use lib.ListN.{take, drop}
use borrow.Author.Tests.{ne_eqb}
use Rattle.token.specs.Kind
use Rattle.tree.specs.Tree.{Tree, records}
use Rattle.tree.specs.Node
use Rattle.grammar.specs.Reading.Number
use Rattle.grammar.specs.Reading.Pattern.{to_pattern, modified}
use Rattle.grammar.specs.Reading.Result.{Res, ok, fail, then, ifb, Error}
use Rattle.grammar.specs.Reading.Look.{expect, expect_pattern, try_assign_keyword}
use Rattle.grammar.specs.Reading.Expr.{Depth, Stmts, tuple_expr, expr}
use Rattle.grammar.specs.Reading.Block.{body, block_of, block_expr, expr_label}
use Rattle.grammar.specs.Reading.Stmt.{stmt_list_of, loop, while_loop, lvalue_list, for_loop, stmt_label, stmt, is_control}
use Rattle.scan.specs.Post.{Taken, Stored}
use Rattle.nodes.specs.Parts.{expression_end}
use Rattle.cycle.specs.Parts.{Whiles, whiles}
use Rattle.scan.specs.Parts.{not_allowed}
use Rattle.nodes.specs.Ends.{Ended, Any}
use Rattle.scan.proofs.Laws.{Looks}
use Rattle.nodes.proofs.Algebra.{then_ok, then_then, then_same}

-- what a pattern was made of, under its modifier
pub ended_text : {make : Tree → Tree} {a more r : ℕ} {S S' : List ℕ} {d : List Error → Res Tree} {T : List ℕ} {least most at : ℕ} {X : List ℕ} {p : ℕ} → Ended records Any records make a more r S S' → (st : Stored records d T least most at X p a S) → take r S' ≡ X ++ records (make st.got.what)
ended_text {X = X} e st = e.text X st.got.what tt st.text

pub modified_text : (t : Tree) {m n : ℕ} {X Y Z : List ℕ} → Z ≡ X ++ records (modified m t) → X ≡ Y → n ≡ m → Z ≡ Y ++ records (modified n t)
modified_text t e x i = e ∙ rw (x, i)

-- ways through a reading
module _ (low : Depth) (l : ℕ) (q : List Error) (ts : List ℕ) where
  pub block_step : block_expr low l q ts ≡ then q (body low q ts) (λ s q₁ r. ok (Node.block l (block_of s)) r)
  unfolding block_expr
  block_step = refl

  pub loop_step : loop low l q ts ≡ then q (body low q ts) (λ s q₁ r. ok (Node.loop l (stmt_list_of s)) r)
  unfolding loop
  loop_step = refl

  pub begin_looks : Looks q ts (expr_label low l q ts)
  unfolding expr_label
  begin_looks = record { go = _; is = refl }

  pub stmt_label_looks : Looks q ts (stmt_label low l q ts)
  unfolding stmt_label
  stmt_label_looks = record { go = _; is = refl }

pub stmt_looks : (low : Depth) (q : List Error) (ts : List ℕ) → Looks q ts (stmt low q ts)
unfolding stmt
stmt_looks low q ts = record { go = _; is = refl }

module _ (low : Depth) (q : List Error) (ts : List ℕ) where
  pub whiles_step : whiles low q ts ≡ then q (expr low q ts) (λ e q₁ r. then q₁ (expect Kind.Do Number.missing_do q₁ r) λ tok q₂ s. then q₂ (body low q₂ s) λ b q₃ u. ok (record { over = e; run = b }) u)
  unfolding whiles
  whiles_step = refl

  -- what goes on as `whiles` does
  pub whiles_as : {A : Type 0} (make : Tree → Stmts → A) → then q (expr low q ts) (λ e q₁ r. then q₁ (expect Kind.Do Number.missing_do q₁ r) λ tok q₂ s. then q₂ (body low q₂ s) λ b q₃ u. ok (make e b) u) ≡ then q (whiles low q ts) (λ x q₁ r. ok (make x.over x.run) r)
  whiles_as make = sym (ap (λ (d : Res Whiles). then q d (λ x q₁ r. ok (make x.over x.run) r)) whiles_step ∙ then_then q (expr low q ts) _ _
      ∙ then_same q (expr low q ts) (λ e q₁ r. then_then q₁ (expect Kind.Do Number.missing_do q₁ r) _ _ ∙ then_same q₁ (expect Kind.Do Number.missing_do q₁ r) (λ tok q₂ s. then_then q₂ (body low q₂ s) _ _ ∙ then_same q₂ (body low q₂ s) (λ b q₃ u. then_ok q₃ _))))

  pub while_as : (l : ℕ) → while_loop low l q ts ≡ then q (whiles low q ts) (λ x q₁ r. ok (Node.while_loop l x.over (stmt_list_of x.run)) r)
  unfolding while_loop
  while_as l = whiles_as (λ e b. Node.while_loop l e (stmt_list_of b))

pub for_step : (low : Depth) (l : ℕ) (q : List Error) (ts : List ℕ) → for_loop low l q ts ≡ then q (lvalue_list low q ts) (λ pattern q₁ r. then q₁ (expect Kind.In Number.missing_do q₁ r) λ tok q₂ s.
    then q₂ (expr low q₂ s) λ iter q₃ u. then q₃ (expect Kind.Do Number.missing_do q₃ u) λ tok₂ q₄ x. then q₄ (body low q₄ x) λ b q₅ y. ok (Node.for_loop l pattern iter (stmt_list_of b)) y)
unfolding for_loop
for_step low l q ts = refl

pub lvalue_step : (low : Depth) (q : List Error) (ts : List ℕ) → lvalue_list low q ts ≡ then q (try_assign_keyword q ts) (λ m q₁ r. then q₁ (tuple_expr low q₁ r) λ t q₂ s. then q₂ (expect_pattern Number.cannot_assign (to_pattern t) q₂ s) λ p q₃ u. ok (modified m p) u)
unfolding lvalue_list
lvalue_step low q ts = refl

-- the three controls, by what is known of them together
module _ {A : Type 0} (q : List Error) (r : List ℕ) (z : Unit {0} → Res A) where
  control_one : (a b c : Bool) → (a || b || c) ≡ true → ifb a (λ _. fail Number.continue_not_allowed q r) (λ _. ifb b (λ _. fail Number.break_not_allowed q r) (λ _. ifb c (λ _. fail Number.return_not_allowed q r) z)) ≡ fail (cond a Number.continue_not_allowed (cond b Number.break_not_allowed Number.return_not_allowed)) q r
  unfolding ifb
  control_one true b c e = refl
  control_one false true c e = refl
  control_one false false true e = refl
  control_one false false false e = absurd (let z : ◌≡◌ {A = ℕ} 0 1 = cc in omega arith)

  control_none : (a b c : Bool) → (a || b || c) ≡ false → ifb a (λ _. fail Number.continue_not_allowed q r) (λ _. ifb b (λ _. fail Number.break_not_allowed q r) (λ _. ifb c (λ _. fail Number.return_not_allowed q r) z)) ≡ z tt
  unfolding ifb
  control_none true b c e = absurd (let z : ◌≡◌ {A = ℕ} 0 1 = cc in omega arith)
  control_none false true c e = absurd (let z : ◌≡◌ {A = ℕ} 0 1 = cc in omega arith)
  control_none false false true e = absurd (let z : ◌≡◌ {A = ℕ} 0 1 = cc in omega arith)
  control_none false false false e = refl

module _ (low : Depth) (q : List Error) {T : List ℕ} {pos k n v : ℕ} (at : Taken T pos k n v) where
  module _ (l : ℕ) where
    pub begin_is : k ≡ Kind.Begin → expr_label low l q (drop pos T) ≡ block_expr low l q (drop (pos + 2) T)
    unfolding expr_label then ifb
    begin_is e = rw (at.same, e)

    pub begin_not : (k ≡ Kind.Begin → ⊥) → expr_label low l q (drop pos T) ≡ fail Number.label_alone q (drop pos T)
    unfolding expr_label then ifb
    begin_not h = rw (at.same, ne_eqb _ _ h)

    pub label_loop : k ≡ Kind.Loop → stmt_label low l q (drop pos T) ≡ loop low l q (drop (pos + 2) T)
    unfolding stmt_label then ifb
    label_loop e = rw (at.same, e)

    pub label_while : k ≡ Kind.While → stmt_label low l q (drop pos T) ≡ while_loop low l q (drop (pos + 2) T)
    unfolding stmt_label then ifb
    label_while e = rw (at.same, e)

    pub label_for : k ≡ Kind.For → stmt_label low l q (drop pos T) ≡ for_loop low l q (drop (pos + 2) T)
    unfolding stmt_label then ifb
    label_for e = rw (at.same, e)

    pub label_alone : (k ≡ Kind.Loop → ⊥) → (k ≡ Kind.While → ⊥) → (k ≡ Kind.For → ⊥) → stmt_label low l q (drop pos T) ≡ fail Number.label_alone q (drop pos T)
    unfolding stmt_label then ifb
    label_alone a b c = rw (at.same, ne_eqb _ _ a, ne_eqb _ _ b, ne_eqb _ _ c)

  pub stmt_loop : k ≡ Kind.Loop → stmt low q (drop pos T) ≡ loop low 0 q (drop (pos + 2) T)
  unfolding stmt then ifb
  stmt_loop e = rw (at.same, e)

  pub stmt_while : k ≡ Kind.While → stmt low q (drop pos T) ≡ while_loop low 0 q (drop (pos + 2) T)
  unfolding stmt then ifb
  stmt_while e = rw (at.same, e)

  pub stmt_for : k ≡ Kind.For → stmt low q (drop pos T) ≡ for_loop low 0 q (drop (pos + 2) T)
  unfolding stmt then ifb
  stmt_for e = rw (at.same, e)

  pub stmt_labelled : k ≡ Kind.Label → stmt low q (drop pos T) ≡ stmt_label low (v + 1) q (drop (pos + 2) T)
  unfolding stmt then ifb
  stmt_labelled e =
      let i : suc v ≡ v + 1 = omega arith in
      rw (at.same, e, i)

  pub stmt_assert : k ≡ Kind.Assert → stmt low q (drop pos T) ≡ then q (expr low q (drop (pos + 2) T)) (λ e q₂ r. ok (Node.assert e) r)
  unfolding stmt then ifb
  stmt_assert e = rw (at.same, e)

  module _ (a : k ≡ Kind.Loop → ⊥) (b : k ≡ Kind.While → ⊥) (c : k ≡ Kind.For → ⊥) (d : k ≡ Kind.Label → ⊥) (e : k ≡ Kind.Assert → ⊥) where
    stmt_other : stmt low q (drop pos T) ≡ ifb (eqb k Kind.Continue) (λ _. fail Number.continue_not_allowed q (drop (pos + 2) T)) (λ _. ifb (eqb k Kind.Break) (λ _. fail Number.break_not_allowed q (drop (pos + 2) T)) (λ _. ifb (eqb k Kind.Return) (λ _. fail Number.return_not_allowed q (drop (pos + 2) T))
        (λ _. then q (expr low q (drop pos T)) (λ x q₂ r. expression_end x q₂ r))))
    unfolding stmt then ifb expression_end
    stmt_other = rw (at.same, ne_eqb _ _ a, ne_eqb _ _ b, ne_eqb _ _ c, ne_eqb _ _ d, ne_eqb _ _ e)

    pub stmt_control : {x : Bool} → x ≡ is_control k → x ≡ true → stmt low q (drop pos T) ≡ fail (not_allowed k) q (drop (pos + 2) T)
    stmt_control i h = stmt_other ∙ control_one q (drop (pos + 2) T) _ (eqb k Kind.Continue) (eqb k Kind.Break) (eqb k Kind.Return) (sym i ∙ h)

    pub stmt_expr : {x : Bool} → x ≡ is_control k → x ≡ false → stmt low q (drop pos T) ≡ then q (expr low q (drop pos T)) (λ x q₂ r. expression_end x q₂ r)
    stmt_expr i h = stmt_other ∙ control_none q (drop (pos + 2) T) _ (eqb k Kind.Continue) (eqb k Kind.Break) (eqb k Kind.Return) (sym i ∙ h)
