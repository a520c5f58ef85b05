-- The words of valid expressions, also under a modifier, read back, over operands that read back at the depth d. Assumes nothing.
use Rattle.std.specs.Prelude.{◌≡◌, Bool, false, eqb}
use Rattle.std.proofs.Math.Path.{refl, ap, fun_ext}
use Rattle.std.proofs.Math.Bool.{true}
use mathlib.Core.List.{List, ◌∷◌}
use Prim.Native.Nat.{ℕ, suc, pred, ◌+◌, ◌*◌, ◌/◌, ◌<◌}
use native.Mathlib.Omega.{arith}
use Rattle.token.specs.Kind
use Rattle.operator.specs.Operator.{assign_code}
use Rattle.tree.specs.NodeKind
use Rattle.tree.specs.Tree.{Tree, node, kind_of}
use Rattle.tree.specs.Node
use Rattle.grammar.specs.Reading.Result.{ok}
use Rattle.grammar.specs.Reading.Expr.{expr}
use Rattle.grammar.specs.Reading.Primary.{with_action}
use Rattle.grammar.specs.Reading.Depth.{at_depth}
use Rattle.grammar.specs.Canonical.Write.{own, modified, write, fun_gives}
use Rattle.grammar.specs.Canonical.Need.{need}
use Rattle.grammar.specs.Canonical.Valid.{Valid, assign, plain, ex, given, v_target, v_assign, v_inner, v_plain, v_keyword, v_given, v_given_assign, v_given_target}
use borrow.Author.Tests.{le-leb}
use Rattle.grammar.proofs.Laws.Roles.{as_inner, same_action, has_target}
use Rattle.grammar.proofs.Laws.Back.Steps.{Needs}
use Rattle.grammar.proofs.Laws.Back.Starts.{up, no_keyword, keyword_seen, assign_own, assign_modified, target_words, target_depth, pattern_starts}
use Rattle.grammar.proofs.Laws.Back.Expr.{After, close, Reads, plain_back, assignment_back}

-- under a modifier only an assignment is written in another way
words_place : (t : Tree) → eqb (kind_of t) NodeKind.Assignment ≡ false → write t modified ≡ write t own
unfolding write
words_place (node k v f) e = fun_ext λ r. rw e

depth_place : (t : Tree) → eqb (kind_of t) NodeKind.Assignment ≡ false → need t modified ≡ need t own
unfolding need
depth_place (node k v f) e = rw e

module _ (d : ℕ) (R : Reads d) where
  -- an assignment with a keyword, the m-th
  keyword_back : {c : Bool} (m : ℕ) {t : Tree} → m < 3 → Valid (assign own c (suc m)) t → (q r : List ℕ) → After c r → Needs (need t own) d (expr (at_depth d) q (write t own r)) (ok t r)
  unfolding need
  keyword_back m l (v_assign {lhs = p} {rhs = t} k c h g e) q r a =
      rw (assign_own p t k (omega arith) c e r, e)
      (assignment_back d R k (suc (suc m)) q _ c h g a (keyword_seen (suc m) (omega arith) q _))

  pub ex_back : {b c : Bool} {t : Tree} → Valid (ex b c) t → (q r : List ℕ) → After c r → Needs (need t own) d (expr (at_depth d) q (write t own r)) (ok t r)
  unfolding need
  ex_back (v_plain h) q r a = plain_back d R h q r a
  ex_back (v_keyword {a = m} l h) q r a = keyword_back m l h q r a

  -- under a modifier, which is an assignment's action
  pub given_back : {a : ℕ} {t : Tree} → a < 4 → Valid (given a) t → (q s : List ℕ)
      → (e : Tree) × Needs (need t modified) d (expr (at_depth d) q (write t modified (Kind.CloseParen ∷ 0 ∷ s))) (ok e (Kind.CloseParen ∷ 0 ∷ s)) × (with_action (suc a) e ≡ t)
  unfolding write need
  given_back {a = a} {t = t} l (v_given e h) q s =
      (t, rw (words_place t e, depth_place t e) (plain_back d R h q _ close), same_action a t e)
  given_back {a = a} l (v_given_assign (v_assign {lhs = p} {rhs = t} k c h g e)) q s =
      let n : ℕ = pred (assign_code k) in
      let z : (0 + 4 * n) / 4 ≡ n = omega arith in (
        Node.assignment 0 n p t,
        rw (assign_modified p t k l c e (Kind.CloseParen ∷ 0 ∷ s), e) (assignment_back d R k 0 q _ c h g close (no_keyword q (up (omega arith) (pattern_starts h _)))),
        ap (λ m. Node.assignment a m p t) z,
      )
  given_back {a = a} l (v_given_target {p = p} {d = t} g h) q s =
      let e = has_target g h in
      let w : List ℕ = Kind.CloseParen ∷ 0 ∷ s in
      let m : fun_gives modified (a + 4 * 0) ≡ true = le-leb (suc (a + 0)) 4 (omega arith) in
      let v : Valid (plain true true) (Node.assignment 2 0 p t) = v_inner (as_inner (v_target g h)) in (
        Node.assignment 2 0 p t,
        rw (target_words modified (a + 0) p t m e w, target_depth modified (a + 0) p t m e)
            (rw (target_words own 2 p t refl e w, target_depth own 2 p t refl e) at (plain_back d R v q w close)),
        refl,
      )
