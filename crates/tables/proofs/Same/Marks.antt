-- The tokens that a node's value says, as the tables write them and as grammar does. Assumes nothing.
use Rattle.std.specs.Prelude.{◌≡◌, List, eqb}
use Rattle.std.proofs.Math.Path.{refl, ap}
use Rattle.std.proofs.Common.{◌∙◌, ne_eqb}
use Prim.Native.Nat.{ℕ, zero, suc, ◌-◌, ◌/◌, ◌%◌, ◌<◌}
use native.Mathlib.Omega.{arith}
use Rattle.std.proofs.Math.Dec.{eqb-suc-zero}
use Rattle.operator.specs.Operator.{unary_token}
use Rattle.grammar.specs.Canonical.Write.{token, name, label, keyword_of, keyword, named}
use Rattle.grammar.proofs.Laws.Facts.{by_test}
use Rattle.tables.specs.Choice.{where_zero}
use Rattle.tables.specs.Operators.{NoToken}
use Rattle.tables.specs.Layout.{emit}
use Rattle.tables.specs.Tokens.{label_token, access_token, label_in, carried}

-- an operator's token is one
pub symbol_words : (c : ℕ) (r : List ℕ) → c < NoToken → emit c 0 r ≡ token c r
unfolding emit
symbol_words c r h = rw (ne_eqb c NoToken (λ e. omega arith))

module _ (k : ℕ) where
  pub label_words : (l : ℕ) (r : List ℕ) → emit (label_token l) (carried k l (label_token l)) r ≡ label l r
  unfolding emit label_token label_in carried where_zero
  label_words zero r = refl
  label_words (suc n) r = let e : suc n - 1 ≡ n = omega arith in rw (eqb-suc-zero n, e)

  pub named_words : (v : ℕ) (r : List ℕ) → emit (access_token v) (carried k v (access_token v)) (name (v / 2) r) ≡ named v r
  unfolding emit access_token carried where_zero
  named_words v r = by_test (eqb (v % 2) 0) (λ e. rw e) (λ e. rw e)

  pub keyword_words : (v a : ℕ) (r : List ℕ) → emit (keyword_of a) (carried k v (keyword_of a)) r ≡ token (keyword_of a) r
  unfolding emit carried
  keyword_words v a r =
      by_test (eqb a 0) (λ e. rw e)
      (λ e. by_test (eqb a 1) (λ f. rw (e, f))
      (λ f. by_test (eqb a 2) (λ g. rw (e, f, g)) (λ g. rw (e, f, g))))

  pub action_words : (v a : ℕ) (r : List ℕ) → emit (where_zero a NoToken (keyword_of a)) (carried k v (where_zero a NoToken (keyword_of a))) r ≡ keyword a r
  unfolding emit where_zero
  action_words v zero r = refl
  action_words v (suc a) r =
      let e : where_zero (suc a) NoToken (keyword_of (suc a)) ≡ keyword_of (suc a) = rw (eqb-suc-zero a) in
      ap (λ c. emit c (carried k v c) r) e ∙ keyword_words v (suc a) r

  pub unary_words : (v n : ℕ) (r : List ℕ) → unary_token n < NoToken → emit (unary_token n) (carried k v (unary_token n)) r ≡ token (unary_token n) r
  unfolding emit carried unary_token
  unary_words v zero r h = refl
  unary_words v (suc zero) r h = refl
  unary_words v (suc (suc zero)) r h = refl
  unary_words v (suc (suc (suc zero))) r h = refl
  unary_words v (suc (suc (suc (suc n)))) r h = absurd (omega arith)
