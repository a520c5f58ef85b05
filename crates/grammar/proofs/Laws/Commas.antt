-- No comma follows an expression, read cleanly or with errors: a tuple takes the commas behind it. Assumes nothing.
use Rattle.std.specs.Prelude.{refl, List, ℕ, zero, suc}
use Rattle.token.specs.Kind
use Rattle.tree.specs.Tree.{Forest}
use Rattle.grammar.specs.Reading.Result.{Error}
use Rattle.grammar.specs.Reading.Expr.{Depth, members, tuple_expr, expr}
use Rattle.grammar.specs.Reading.Depth.{at_depth}
use Rattle.grammar.proofs.Laws.Keep.{successes, Success, k_ok, k_failed, k_stop, k_on, k_any, k_if, k_tested}
use Rattle.grammar.proofs.Laws.Seen.{look_seen, isnt, not_at, NotComma}

-- no comma follows an expression
abbrev pub NoCommaBehind : Depth → Type 0
NoCommaBehind low = (q : List Error) (ts : List ℕ) → Success (λ t r. NotComma r) (expr low q ts)

members_end : (low : Depth) (n : ℕ) (f : Forest) (q : List Error) (ts : List ℕ) → Success (λ t r. NotComma r) (members low n f q ts)
unfolding members
members_end low zero f q ts = k_failed
members_end low (suc n) f q ts =
    k_on q (look_seen q ts) λ tok q₁ rest s. k_tested _
    (λ _ e. k_on q (look_seen q rest) λ tok₂ q₂ rest₂ s₂. k_tested _ (λ _ c. k_ok (isnt s₂ Kind.CloseParen Kind.Comma c refl)) (λ _ c. search (successes, members_end low n)))
    (λ _ e. k_ok (not_at s Kind.Comma e))

tuple_end : (low : Depth) (q : List Error) (ts : List ℕ) → Success (λ t r. NotComma r) (tuple_expr low q ts)
unfolding tuple_expr
tuple_end low q ts =
    k_any q _ λ t q₁ r.
    k_on q₁ (look_seen q₁ r) λ tok q₂ rest s. k_tested _ (λ _ e. members_end low _ _ q₁ r) (λ _ e. k_ok (not_at s Kind.Comma e))

expr_end : (low : Depth) → ((q : List Error) (ts : List ℕ) → Success (λ t r. NotComma r) (low.right q ts)) → NoCommaBehind low
unfolding expr
expr_end low h q ts =
    k_any q _ λ m q₁ r. k_on q₁ (tuple_end low q₁ r) λ lhs q₂ s i. k_any q₂ _ λ tok q₃ rest.
    k_if _ (λ _. search successes) (λ _. k_any q₂ _ λ p q₄ u. k_on q₂ (h q₂ u) λ rhs q₅ x j. k_ok j)

pub no_comma_behind : (d : ℕ) → NoCommaBehind (at_depth d)
unfolding at_depth
no_comma_behind zero = expr_end (at_depth zero) (λ q ts. k_stop)
no_comma_behind (suc d) = expr_end (at_depth (suc d)) (no_comma_behind d)
