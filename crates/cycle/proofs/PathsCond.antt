-- Conditionals (grammar's Reading/Block.antt): an equation for each way through an arm and what stands behind it, and the text of the arms. Assumes nothing.
use mathlib.Core.Path.{◌≡◌, refl, sym, ap, ◌∙◌}
use mathlib.Core.List.{List, [], ◌∷◌, ◌++◌, append_assoc}
use Prim.Native.Nat.{ℕ, zero, suc, ◌+◌, ◌*◌, ◌-◌, ◌≤◌}
use native.Mathlib.Numerals.{sub-one}
use native.Mathlib.Omega.{arith}
use lib.Dec.{eqb}
use lib.ListN.{length, take, drop}
use borrow.Author.Tests.{ne_eqb}
use Rattle.token.specs.Kind
use Rattle.tree.specs.Tree.{Tree, Forest, none, snoc, count, records, all_records}
use Rattle.tree.specs.Node
use Rattle.tree.specs.Store.{Emitted}
use Rattle.grammar.specs.Reading.Number
use Rattle.grammar.specs.Reading.Result.{Res, ok, fail, then, ifb, Error}
use Rattle.grammar.specs.Reading.Look.{look, expect, try_assign_keyword}
use Rattle.grammar.specs.Reading.Expr.{Depth, expr}
use Rattle.grammar.specs.Reading.Block.{body, block_of, branches}
use Rattle.grammar.specs.Reading.Depth.{at_depth}
use Rattle.scan.specs.Post.{Wrote, Taken}
use Rattle.cycle.specs.Parts.{arm}
use Rattle.nodes.specs.Ends.{Added}
use Rattle.scan.proofs.Laws.{Looks}
use Rattle.scan.proofs.Text.{left, prefix_of}
use Rattle.nodes.proofs.Made.{joined, put, over_two, count_snoc}
use Rattle.nodes.proofs.Algebra.{then_ok, then_then, then_same}

-- an arm
pub arm_step : (low : Depth) (q : List Error) (ts : List ℕ) → arm low q ts ≡ then q (expr low q ts) (λ e q₁ r. then q₁ (expect Kind.Then Number.missing_then q₁ r) λ tok q₂ s. then q₂ (low.list 1 q₂ s) λ b q₃ u. ok (Node.conditional_branch e (block_of b)) u)
unfolding arm
arm_step low q ts = refl

-- behind an arm
unfoldable pub behind : Depth → ℕ → Forest → Tree → List Error → List ℕ → Res Tree
behind low n f b q u =
    then q (look q u) λ tok q₄ rest.
    ifb (eqb tok.kind Kind.End) (λ _. ok (Node.if_expr (snoc f b) Node.absent) rest) λ _.
    ifb (eqb tok.kind Kind.Else)
    (λ _. then q (body low q rest) λ e q₅ x. ok (Node.if_expr (snoc f b) (block_of e)) x)
    (λ _. branches low n (snoc f b) q rest)

expr_empty : (low : Depth) (q : List Error) → expr low q [] ≡ fail Number.end_of_tokens q []
unfolding expr try_assign_keyword look then
expr_empty low q = refl

arm_empty : (low : Depth) (f : Tree → List Error → List ℕ → Res Tree) (q : List Error) → then q (arm low q []) f ≡ fail Number.end_of_tokens q []
unfolding then
arm_empty low f q = rw (arm_step low q [], expr_empty low q)

branches_suc : (low : Depth) (n : ℕ) (f : Forest) (q : List Error) (ts : List ℕ) → branches low (suc n) f q ts ≡ then q (arm low q ts) (λ b q₃ u. behind low n f b q₃ u)
unfolding branches behind
branches_suc low n f q ts = sym (ap (λ (d : Res Tree). then q d (λ b q₃ u. behind low n f b q₃ u)) (arm_step low q ts) ∙ then_then q (expr low q ts) _ _
    ∙ then_same q (expr low q ts) (λ e q₁ r. then_then q₁ (expect Kind.Then Number.missing_then q₁ r) _ _ ∙ then_same q₁ (expect Kind.Then Number.missing_then q₁ r) (λ tok q₂ s. then_then q₂ (low.list 1 q₂ s) _ _ ∙ then_same q₂ (low.list 1 q₂ s) (λ b q₃ u. then_ok q₃ _))))

branches_zero : (low : Depth) (f : Forest) (q : List Error) → branches low 0 f q [] ≡ fail Number.end_of_tokens q []
unfolding branches
branches_zero low f q = refl

branches_any : (low : Depth) (fuel : ℕ) (f : Forest) (q : List Error) (ts : List ℕ) → length ts ≤ fuel → branches low fuel f q ts ≡ then q (arm low q ts) (λ b q₃ u. behind low (fuel - 1) f b q₃ u)
branches_any low zero f q [] h = branches_zero low f q ∙ sym (arm_empty low _ q)
branches_any low zero f q (x ∷ ts) h = absurd (omega arith)
branches_any low (suc n) f q ts h = branches_suc low n f q ts ∙ rw (sub-one (suc n))

pub branches_step : (low : Depth) (fuel : ℕ) (f : Forest) (q : List Error) (T : List ℕ) (p : ℕ) → length T ≤ p + fuel → branches low fuel f q (drop p T) ≡ then q (arm low q (drop p T)) (λ b q₃ u. behind low (fuel - 1) f b q₃ u)
branches_step low fuel f q T p h = branches_any low fuel f q (drop p T) (left T p fuel h)

pub behind_looks : (low : Depth) (n : ℕ) (f : Forest) (b : Tree) (q : List Error) (ts : List ℕ) → Looks q ts (behind low n f b q ts)
unfolding behind
behind_looks low n f b q ts = record { go = _; is = refl }

module _ (low : Depth) (fuel : ℕ) (f : Forest) (b : Tree) (q : List Error) {T : List ℕ} {pos k n v : ℕ} (at : Taken T pos k n v) where
  pub behind_end : k ≡ Kind.End → behind low fuel f b q (drop pos T) ≡ ok (Node.if_expr (snoc f b) Node.absent) (drop (pos + 2) T)
  unfolding behind then ifb
  behind_end e = rw (at.same, e)

  pub behind_else : k ≡ Kind.Else → behind low fuel f b q (drop pos T) ≡ then q (body low q (drop (pos + 2) T)) (λ e q₅ x. ok (Node.if_expr (snoc f b) (block_of e)) x)
  unfolding behind then ifb
  behind_else e = rw (at.same, e)

  pub behind_more : (k ≡ Kind.End → ⊥) → (k ≡ Kind.Else → ⊥) → behind low fuel f b q (drop pos T) ≡ branches low fuel (snoc f b) q (drop (pos + 2) T)
  unfolding behind then ifb
  behind_more c d = rw (at.same, ne_eqb _ _ c, ne_eqb _ _ d)

if_words : (g : Forest) (n : ℕ) → count g ≡ n → records (Node.if_expr g Node.absent) ≡ all_records g ++ (1 + 256 * n) ∷ 0 ∷ 0 ∷ 0 ∷ 530 ∷ 0 ∷ []
unfolding records count
if_words g n c = over_two 18 0 (Node.list g) Node.absent ∙ rw (c, append_assoc)

-- where the loop over the branches stands: the whole is what `branches` makes of the n branches that are written so far
pub record Going (T S₀ Q₀ : List ℕ) (depth pos at : ℕ) (S Q : List ℕ) (p a n : ℕ) : Type 0 where
  pub fuel : ℕ
  pub enough : length T ≤ p + fuel
  pub run : Wrote all_records (branches (at_depth depth) (length (drop pos T)) none Q₀ (drop pos T)) (branches (at_depth depth) fuel) T pos pos 8 at S₀ Q₀ p a S Q
  pub many : count run.what ≡ n
  pub short : 2 * n ≤ p
  pub kept : length S ≡ length S₀

-- one arm more
module _ {B C : Type 0} {D : Res B} {K : Forest → List Error → List ℕ → Res B} {d : Res C} {K₁ : Tree → List Error → List ℕ → Res C} {T : List ℕ} {pos least slack at : ℕ} {S₀ Q₀ : List ℕ} {p a : ℕ} {S Q : List ℕ} {pos₁ least₁ slack₁ p₁ a₁ : ℕ} {S₁ Q₁ : List ℕ}
    (g : Wrote all_records D K T pos least slack at S₀ Q₀ p a S Q) (h : Wrote records d K₁ T pos₁ least₁ slack₁ a S Q p₁ a₁ S₁ Q₁) where
  pub arm_text : take a₁ S₁ ≡ take at S₀ ++ all_records (snoc g.what h.what)
  arm_text = joined g.what h.what (take at S₀) h.text g.text

  pub arm_count : {n : ℕ} → count g.what ≡ n → count (snoc g.what h.what) ≡ n + 1
  arm_count e = count_snoc g.what h.what ∙ rw e

  -- with the records behind the last arm
  pub if_text : {n r : ℕ} {S₂ : List ℕ} → Added a₁ 6 ((1 + 256 * (n + 1)) ∷ 0 ∷ 0 ∷ 0 ∷ 530 ∷ 0 ∷ []) r S₁ S₂ → count g.what ≡ n → take r S₂ ≡ take at S₀ ++ records (Node.if_expr (snoc g.what h.what) Node.absent)
  if_text {n} {r} {S₂} e c =
      let Z : List ℕ = (1 + 256 * (n + 1)) ∷ 0 ∷ 0 ∷ 0 ∷ 530 ∷ 0 ∷ [] in
      e.text ∙ ap (λ (l : List ℕ). l ++ Z) arm_text ∙ append_assoc (take at S₀) (all_records (snoc g.what h.what)) Z ∙ ap (λ (l : List ℕ). take at S₀ ++ l) (sym (if_words (snoc g.what h.what) (n + 1) (arm_count c)))

  -- with their list
  pub else_text : {n r : ℕ} {S₂ : List ℕ} → Emitted a₁ (1 + 256 * (n + 1)) 0 r S₁ S₂ → count g.what ≡ n → take r S₂ ≡ take at S₀ ++ records (Node.list (snoc g.what h.what))
  else_text {n} e c =
      let i : 1 + 256 * (n + 1) ≡ 1 + 256 * count (snoc g.what h.what) = ap (λ (m : ℕ). 1 + 256 * m) (sym (arm_count c)) in
      put 1 (snoc g.what h.what) (take at S₀) e arm_text i

  -- what stands before «at» is as it was
  pub arm_before : at ≤ length S₀ → take at S₁ ≡ take at S₀
  arm_before i = prefix_of S₀ S₁ (all_records (snoc g.what h.what)) at a₁ arm_text i

  pub else_before : {n r : ℕ} {S₂ : List ℕ} → Emitted a₁ (1 + 256 * (n + 1)) 0 r S₁ S₂ → count g.what ≡ n → at ≤ length S₀ → take at S₂ ≡ take at S₀
  else_before {r = r} {S₂ = S₂} e c i = prefix_of S₀ S₂ (records (Node.list (snoc g.what h.what))) at r (else_text e c) i
