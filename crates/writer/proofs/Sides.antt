-- A chain of operators from its root: the right side, the operator, and on with the left side. Holds for any tree. Assumes nothing.
use mathlib.Core.Path.{◌≡◌, refl, ap, ◌∙◌}
use mathlib.Core.Bool.{Bool, true, false, ◌&&◌, and-true, and-false}
use mathlib.Core.List.{List, ◌∷◌}
use Prim.Native.Nat.{ℕ, ◌-◌, ◌≤◌}
use native.Mathlib.Omega.{arith}
use lib.ListN.{get_or}
use borrow.Author.Tests.{le-leb}
use Rattle.operator.specs.Operator.{op_token}
use Rattle.tree.specs.NodeKind
use Rattle.tree.specs.Tree.{Tree, node, none, more, count}
use Rattle.tree.specs.Records.{back}
use Rattle.tables.specs.Choice.{where_zero, where_is}
use Rattle.tables.specs.Form.{Own, first_place, second_place, place_of, base, first_deeper, second_deeper, deeper}
use Rattle.tables.specs.Layout.{form_of, text, within, emit, opened, closed}
use Rattle.writer.specs.Post.{WroteTree}
use Rattle.writer.specs.Stack.{At}
use Rattle.writer.specs.Text.{Put}
use Rattle.output.specs.Text.{Holds}
use Rattle.tables.specs.Tokens.{first_token, later_first_token, second_token, third_token, after_token, first_after, behind_token, last_token}
use Rattle.std.specs.declared.result.Result.{Result}
use Rattle.std.specs.declared.result.Result.TheVariants.{Ok, Err}
use Rattle.writer.specs.declared.Step.{Step}
use Rattle.writer.specs.declared.TooDeep.{TooDeep}
use Rattle.writer.proofs.Laws.{pop}
use Rattle.writer.proofs.Writing.{under_top, wrote_at}

-- where the loop along it stands: what the whole writes is Y, and it is within its depth if `enough` says so; the tree that is left, and the words behind it
pub record Stage (L : List ℕ) (s : List Tree) (Y : List ℕ) (enough : Bool) (d from : ℕ) (O : List ℕ) (at p a : ℕ) : Type 0 where
  pub top : Tree
  pub words : List ℕ
  pub here : At L p (top ∷ s)
  pub holds : Holds a O words
  pub same : Y ≡ text top at words
  pub deep : enough ≡ within top at d
  pub below : p ≤ from

-- the two sides of an operator
pub record Sides (L : List ℕ) (s : List Tree) (Y : List ℕ) (enough : Bool) (d from : ℕ) (O : List ℕ) (at p a : ℕ) : Type 0 where
  pub left : Tree
  pub right : Tree
  pub words : List ℕ
  pub two : 2 ≤ p
  pub here : At L (p - 2) (right ∷ left ∷ s)
  pub holds : Holds a O words
  pub same : Y ≡ text left Own (emit (op_token (get_or L (p - 1) 0)) 0 (text right Own words))
  pub deep : enough ≡ within left Own d && within right Own d
  pub below : p ≤ from

binary_text : (v place : ℕ) (t u : Tree) (X : List ℕ) → text (node NodeKind.BinaryOp v (more t (more u none))) place X ≡ text t Own (emit (op_token v) 0 (text u Own X))
unfolding text form_of opened closed emit first_token later_first_token second_token third_token after_token first_after behind_token last_token place_of first_place second_place where_is where_zero count
binary_text v place t u X = refl

binary_within : (v place d : ℕ) (t u : Tree) → within (node NodeKind.BinaryOp v (more t (more u none))) place d ≡ within t Own d && within u Own d
unfolding within form_of place_of first_place second_place base deeper first_deeper second_deeper
binary_within v place d t u =
    let e : d - 0 ≡ d = omega arith in
    ap (λ b. b && (within t Own (d - 0) && (within u Own (d - 0) && true))) (le-leb 0 d (omega arith)) ∙ rw (e, and-true (within u Own d))

pub sides : {L : List ℕ} {s : List Tree} {Y : List ℕ} {enough : Bool} {d from : ℕ} {O : List ℕ} {at p a : ℕ} → Stage L s Y enough d from O at p a → get_or L (p - 2) 0 ≡ 525 → Sides L s Y enough d from O at p a
unfolding count back
sides {L} {s} {Y} {enough} {d} {from} {O} {at} {p} {a} w h = go w.top w.here w.same w.deep
  where
    go : (t : Tree) → At L p (t ∷ s) → Y ≡ text t at w.words → enough ≡ within t at d → Sides L s Y enough d from O at p a
    go (node k v none) here e g = absurd (omega (arith, (pop here).kids))
    go (node k v (more t none)) here e g = absurd (omega (arith, (pop here).kids))
    go (node k v (more t (more u none))) here e g =
        let x = pop here in
        let y = x.kind in
        let z : k ≡ NodeKind.BinaryOp = omega arith in
        record {
          left = t;
          right = u;
          words = w.words;
          two = x.two;
          here = x.under;
          holds = w.holds;
          same = e ∙ rw (z, x.value) (binary_text v at t u w.words);
          deep = g ∙ rw z (binary_within v at d t u);
          below = w.below;
        }
    go (node k v (more t (more u (more x f)))) here e g = absurd (omega (arith, (pop here).kids))

module _ {L : List ℕ} {s : List Tree} {Y : List ℕ} {enough : Bool} {d from : ℕ} {O : List ℕ} {at p a : ℕ} (w : Sides L s Y enough d from O at p a) {O₁ : List ℕ} {r : Result Step TooDeep} (x : WroteTree L d Own (p - 2) a O O₁ r) where
  -- the right side is written
  pub side_written : {step : Step} → r ≡ Ok step → (within w.right Own d ≡ true) × At L step.records (w.left ∷ s) × Holds step.words O₁ (text w.right Own w.words)
  side_written re = wrote_at x re w.right (w.left ∷ s) w.words w.here w.holds

  -- on with the left side
  pub side_done : {O₂ : List ℕ} {step : Step} {b : ℕ} → r ≡ Ok step → Put (op_token (get_or L (p - 1) 0)) 0 step.words b O₁ O₂ → Stage L s Y enough d from O₂ Own step.records b
  side_done re put =
      let t = side_written re in
      let y = under_top w.here t.1 in
      let z = w.below in
      record {
        top = w.left;
        words = emit (op_token (get_or L (p - 1) 0)) 0 (text w.right Own w.words);
        here = t.1;
        holds = put.how (text w.right Own w.words) t.2;
        same = w.same;
        deep = w.deep ∙ rw (t.0, and-true (within w.left Own d));
        below = omega arith;
      }

  pub side_deep : {e : TooDeep} → r ≡ Err e → enough ≡ false
  side_deep re = w.deep ∙ rw (wrote_at x re w.right (w.left ∷ s) w.words w.here w.holds, and-false (within w.left Own d))
