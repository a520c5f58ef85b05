-- Why 32, the wrong order of parameters, is never met: no comma follows an expression, so a default takes the commas behind it, and nothing follows it but `)`. Assumes nothing.
use Rattle.std.specs.Prelude.{◌≡◌, refl, false, ◌||◌, ◌⊎◌, List, eqb}
use Rattle.std.proofs.Math.Bool.{true}
use Rattle.std.proofs.Common.{inl, inr}
use Rattle.std.proofs.Math.Logic.{⊎_elim}
use Prim.Native.Nat.{ℕ, zero, suc}
use Rattle.token.specs.Kind
use Rattle.tree.specs.Tree.{empty}
use Rattle.grammar.specs.Reading.Result.{Error}
use Rattle.grammar.specs.Reading.Expr.{Depth, expr}
use Rattle.grammar.specs.Reading.Function.{Param, required, variadic, default, Params, variadic_param, plain_param, param, joined, params, function_param_list}
use Rattle.grammar.proofs.Laws.Facts.{clash, other, or_true}
use Rattle.grammar.proofs.Laws.Keep.{successes, Success, k_ok, k_failed, k_on, k_any, k_if, k_tested}
use Rattle.grammar.proofs.Laws.Waits.{ErrorBut, three_never, Waits, Num, n_ok, n_fail, n_after, n_tested}
use Rattle.grammar.proofs.Laws.Numbers.{Numbered, look_nums, param_nums, joined_nums}
use Rattle.grammar.proofs.Laws.Commas.{NoCommaBehind}
use Rattle.grammar.proofs.Laws.Seen.{kind_at, look_seen, not_at, NotComma}

-- no comma follows a parameter with a default
abbrev NoCommaAfter : Param → List ℕ → Type 0
NoCommaAfter (required v) r = Unit {0}
NoCommaAfter (variadic v) r = Unit {0}
NoCommaAfter (default v e) r = NotComma r

plain_no_comma : (low : Depth) → NoCommaBehind low → (v : ℕ) (q : List Error) (ts : List ℕ) → Success NoCommaAfter (plain_param low v q ts)
unfolding plain_param
plain_no_comma low h v q ts = k_any q _ λ tok q₁ rest. k_if _ (λ _. k_on q (h q rest) λ e q₂ r x. k_ok x) (λ _. k_ok tt)

variadic_no_comma : (v : ℕ) (q : List Error) (ts : List ℕ) → Success NoCommaAfter (variadic_param v q ts)
unfolding variadic_param
variadic_no_comma v q ts = search successes

param_no_comma : (low : Depth) → NoCommaBehind low → (q : List Error) (ts : List ℕ) → Success NoCommaAfter (param low q ts)
unfolding param
param_no_comma low h q ts = search (successes, plain_no_comma, variadic_no_comma) depth 9

-- no default was read, or `)` follows, and then no parameter does
abbrev DefaultLast : Params → ℕ → Type 0
DefaultLast ps k = (empty ps.default_list ≡ true) ⊎ (eqb k Kind.CloseParen ≡ true)

closes : (k : ℕ) → eqb k Kind.Comma || eqb k Kind.CloseParen ≡ true → eqb k Kind.Comma ≡ false → eqb k Kind.CloseParen ≡ true
closes k h n = or_true (eqb k Kind.Comma) _ h (λ e. clash e n) (λ e. e)

joined_default_last : (ps : Params) (p : Param) (r : List ℕ) (k : ℕ) (q : List Error) (ts : List ℕ) → empty ps.default_list ≡ true → k ≡ kind_at r → NoCommaAfter p r → Success (λ ps s. DefaultLast ps k) (joined ps p k q ts)
unfolding joined
joined_default_last ps (required v) r k q ts h e x = search (successes, inl) depth 9
joined_default_last ps (variadic v) r k q ts h e x = search (successes, inl) depth 9
joined_default_last ps (default v t) r k q ts h e x = k_tested _ (λ _ c. k_ok (inr (closes k c (rw e x)))) (λ _ c. k_failed)

-- so a list of parameters, in which so far there is no default or `)` follows, has 32 never on its way
module _ {J : Error → Type 0} (others : (e : Error) → ErrorBut three_never e → J e) (low : Depth) (E : Numbered J (expr low)) (c : NoCommaBehind low) where
  ordered_nums : (n : ℕ) (ps : Params) (m : ℕ) (q : List Error) (ts : List ℕ) → DefaultLast ps (kind_at ts) → Waits J m q → Num J m (params low n ps q ts)
  unfolding params
  ordered_nums zero ps m q ts i w = n_fail (others _ refl) w
  ordered_nums (suc n) ps m q ts i w =
      n_after q w (look_nums others m q ts w) (look_seen q ts) λ tok q₁ rest v s. n_tested _ (λ _ e. n_ok) λ _ e.
      let h : empty ps.default_list ≡ true = ⊎_elim (λ a. a) (λ a. clash a (not_at s Kind.CloseParen e)) i in
      n_after q w (param_nums others low E m q ts w) (param_no_comma low c q ts) λ p q₂ r x b.
      n_after q₂ x (look_nums others m q₂ r x) (look_seen q₂ r) λ tok₂ q₃ rest₂ y s₂.
      n_after q₂ x (joined_nums others ps p tok₂.kind (λ a. clash h a) m q₂ r x) (joined_default_last ps p r tok₂.kind q₂ r h s₂.at b) λ ps₂ q₄ u z f. n_tested _
      (λ _ d. ordered_nums n ps₂ m q₂ rest₂ (inl (⊎_elim (λ a. a) (λ a. clash a (other tok₂.kind Kind.Comma Kind.CloseParen d refl)) f)) x)
      (λ _ d. ordered_nums n ps₂ m q₂ r (rw s₂.at at f) x)

  pub ordered_list : Numbered J (function_param_list low)
  ordered_list m q ts w = ordered_nums _ _ m q ts (inl refl) w
