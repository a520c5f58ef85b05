-- Operators, tuples and assignments that are read cleanly are valid. Assumes nothing.
use Rattle.std.proofs.Math.Bool.{true}
use Rattle.std.specs.Prelude.{List, length}
use Prim.Native.Nat.{ℕ, zero, suc}
use Rattle.token.specs.Kind
use Rattle.operator.specs.Operator.{level_count}
use Rattle.tree.specs.Tree.{Forest, one, snoc}
use Rattle.grammar.specs.Reading.Number
use Rattle.grammar.specs.Reading.Result.{Error}
use Rattle.grammar.specs.Reading.Expr.{Depth, binop_expr, members, tuple_expr, expr}
use Rattle.grammar.specs.Canonical.Valid.{binop, plain, v_unary, v_up, v_inner}
use Rattle.grammar.proofs.Laws.Facts.{clash}
use Rattle.grammar.proofs.Laws.Post.{Post, p_ok, p_fail, post_then, post_if, post_map}
use Rattle.grammar.proofs.Laws.Seen.{look_saw, not_at, is_at}
use Rattle.grammar.proofs.Laws.Sound.Base.{OperandOk, ExprOk, AnyOk, Sound, anyhow, operators_sound, MembersOk, first, members_snoc, tuple_made, keyword_sound, pattern_sound, plain_any, assigned}

module _ (low : Depth) (S : Sound low) where
  pub binop_sound : (l : ℕ) (q : List Error) (ts : List ℕ) → Post (λ t r. OperandOk (λ b. binop b l) ts t) (binop_expr low l q ts)
  unfolding binop_expr
  binop_sound zero q ts = post_map (λ t r x. record { valid = λ b h. v_unary (x.valid b h); converts = x.converts; start = x.start }) (S.s_unary q ts)
  binop_sound (suc l) q ts =
      post_then q (binop_sound l q ts) λ left q₁ r x.
      operators_sound l (binop_expr low l) (binop_sound l) ts (length r) left q₁ r (record { valid = λ b h. v_up (x.valid b h); converts = x.converts; start = x.start })

  members_sound : (us : List ℕ) (n : ℕ) (f : Forest) (q : List Error) (ts : List ℕ) → MembersOk us ts f → Post (ExprOk plain us) (members low n f q ts)
  unfolding members
  members_sound us zero f q ts x = p_fail
  members_sound us (suc n) f q ts x =
      post_then q (look_saw q ts) λ tok q₁ rest s. post_if
      (λ _ c. post_then q (look_saw q rest) λ tok₂ q₂ rest₂ s₂. post_if
      (λ _ e. p_ok (tuple_made rest x (λ _. is_at s₂ Kind.CloseParen e)))
      (λ _ e. post_then q (binop_sound level_count q rest) λ t q₃ r y. members_sound us n (snoc f t) q₃ r (members_snoc x (y.valid true anyhow) y.converts)))
      (λ _ c. p_ok (tuple_made ts x (λ e. clash e (not_at s Kind.Comma c))))

  pub tuple_expr_sound : (q : List Error) (ts : List ℕ) → Post (ExprOk plain ts) (tuple_expr low q ts)
  unfolding tuple_expr
  tuple_expr_sound q ts =
      post_then q (binop_sound level_count q ts) λ t q₁ r x.
      post_then q₁ (look_saw q₁ r) λ tok q₂ rest s. post_if
      (λ _ c. members_sound ts (length r) (one t) q₁ r (first x (is_at s Kind.Comma c)))
      (λ _ c. p_ok (record { valid = λ b c' h g. v_inner (x.valid b h); converts = x.converts; start = x.start }))

  pub expr_sound : (q : List Error) (ts : List ℕ) → Post (AnyOk ts) (expr low q ts)
  unfolding expr
  expr_sound q ts =
      post_then q (keyword_sound q ts) λ m q₁ r key.
      post_then q₁ (tuple_expr_sound q₁ r) λ t q₂ s x.
      post_then q₂ (look_saw q₂ s) λ tok q₃ rest w. post_if
      (λ _ e. post_if (λ _ z. p_ok (plain_any key z x)) (λ _ _. p_fail))
      (λ _ n. post_then q₂ (pattern_sound Number.cannot_assign q₂ rest x.converts) λ p q₄ u y.
      post_then q₂ (S.s_right q₂ u) λ e q₅ v z. p_ok (assigned tok.kind key x.start n y.0 z))
