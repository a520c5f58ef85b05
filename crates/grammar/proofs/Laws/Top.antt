-- The numbers at the top level, where a failure may be the end too: `next_numbers`. The end is the start's: `next_end`. A statement that was read with errors leaves one
-- that waits: `bad_waits`. Which errors can be met: `covers_errors`, `covers_but_two`, `covers_but_three`. Assumes nothing.
use Rattle.std.specs.Prelude.{◌≡◌, refl, Bool, not, List, [], eqb, length}
use Rattle.std.proofs.Math.Bool.{true, false}
use Rattle.std.proofs.lemmas.Bool.{false≢true}
use Prim.Native.Nat.{ℕ, zero, suc, ◌<◌}
use Rattle.tree.specs.Tree.{Tree}
use Rattle.grammar.specs.Reading.Number
use Rattle.grammar.specs.Reading.Result.{Error, Res, bad, fail, unclean, either, then, ifb}
use Rattle.grammar.specs.Reading.Expr.{expr}
use Rattle.grammar.specs.Reading.Function.{function_param_list}
use Rattle.grammar.specs.Reading.Depth.{at_depth}
use Rattle.grammar.specs.Reading.Next.{start, next}
use Rattle.grammar.proofs.Laws.Facts.{and_r, if_both}
use Rattle.grammar.proofs.Laws.Commas.{no_comma_behind}
use Rattle.grammar.proofs.Laws.ParamOrder.{ordered_list}
use Rattle.grammar.proofs.Laws.Waits.{ErrorBut, two_never, three_never, error_of, IsError, Waits, Num, n_ok, n_bad, n_fail, n_stop, waits_none, n_unclean, n_then, n_either}
use Rattle.grammar.proofs.Laws.Numbers.{Numbered, look_nums, list_nums, stmt_numbers, failed_nums}

-- at the top level: a failure with an error J, or the end, error 0, with q waiting as before and X of the words that are left
pub data Top {A : Type 0} (J : Error → Type 0) (X : List ℕ → Type 0) (n : ℕ) (q : List Error) : Res A → Type 0 where
  t_end : {r : List ℕ} → X r → Top J X n q (fail 0 q r)
  t_num : {d : Res A} → Num J n d → Top J X n q d

module _ {J : Error → Type 0} {X : List ℕ → Type 0} where
  -- the end is said by the reading itself
  t_self : {A : Type 0} {n : ℕ} {q : List Error} {d : Res A} → Top J X n q d → Top J (λ r. d ≡ fail 0 q r) n q d
  t_self (t_end x) = t_end refl
  t_self (t_num n) = t_num n

  t_then : {A B : Type 0} {n : ℕ} {q : List Error} {d : Res A} {go : A → List Error → List ℕ → Res B} → Waits J n q → Top J X n q d
      → ((a : A) (q : List Error) (r : List ℕ) → Waits J n q → Num J n (go a q r)) → Top J X n q (then q d go)
  unfolding then
  t_then w (t_end x) f = t_end x
  t_then {q = q} w (t_num n) f = t_num (n_then q w n f)

  t_unclean : {A : Type 0} {n : ℕ} {q p : List Error} {d : Res A} → Waits J n p → 0 < length p → Top J X n q d → Top J X n q (unclean p d)
  unfolding unclean
  t_unclean w l (t_end x) = t_end x
  t_unclean w l (t_num n) = t_num (n_unclean w l n)

  t_if : {A : Type 0} {n : ℕ} {q : List Error} (b : Bool) {x y : Unit {0} → Res A} → ((u : Unit {0}) → Top J X n q (x u)) → ((u : Unit {0}) → Top J X n q (y u)) → Top J X n q (ifb b x y)
  t_if {n = n} {q = q} b f g = if_both (Top J X n q) b f g

  t_either : {A B : Type 0} {n : ℕ} {q : List Error} (p : List Error) {d : Res A} {go : A → List Error → List ℕ → Res B} (or : Error → List Error → List ℕ → Res B) → Waits J n p → Num J n d
      → ((a : A) (p : List Error) (r : List ℕ) → Waits J n p → Top J X n q (go a p r)) → ((e : Error) (p : List Error) (r : List ℕ) → J e → Waits J n p → Top J X n q (unclean p (or e p r)))
      → Top J X n q (either p d go or)
  unfolding either
  t_either p or w n_ok f g = f _ _ _ w
  t_either p or w (n_bad v l) f g = t_unclean v l (f _ _ _ v)
  t_either p or w (n_fail j v) f g = g _ _ _ j v
  t_either p or w (n_stop s) f g = t_num (n_stop s)

-- J covers the errors that can be met: it holds of each error's number but 24, 28 and 32, and a list of parameters has only errors J on its way if a default has
pub record Covers (J : Error → Type 0) : Type 0 where
  pub others : (e : Error) → ErrorBut three_never e → J e
  pub list : (d : ℕ) → Numbered J (expr (at_depth d)) → Numbered J (function_param_list (at_depth d))

module _ {J : Error → Type 0} (M : Covers J) where
  -- a lexer error, or no token left, which is the end
  start_fails : {n : ℕ} (b : Bool) (e : Error) (q p : List Error) (ts r : List ℕ) → J e → Waits J n q → Top {A = Unit {0}} J (λ r. Unit {0}) n q (unclean p (ifb b (λ _. fail 0 q ts) (λ _. fail e q r)))
  unfolding unclean ifb
  start_fails true e q p ts r j w = t_end tt
  start_fails false e q p ts r j w = t_num (n_fail j w)

  pub start_numbers : (k n : ℕ) (q : List Error) (ts : List ℕ) → Waits J n q → Top J (λ r. Unit {0}) n q (start k q ts)
  unfolding start
  start_numbers zero n q ts w = t_end tt
  start_numbers (suc k) n q ts w =
      t_either q _ w (look_nums M.others n q ts w)
      (λ tok p rest v. t_if _ (λ u. t_end tt) λ u. t_if _ (λ u. start_numbers k n q rest w) (λ u. t_num n_ok))
      (λ e p r j v. start_fails _ e q p ts r j w)

  pub next_numbers : (d n : ℕ) (q : List Error) (ts : List ℕ) → Waits J n q → Top J (λ r. start (length ts) q ts ≡ fail 0 q r) n q (next d q ts)
  unfolding next
  next_numbers d n q ts w =
      t_then w (t_self (start_numbers (length ts) n q ts w)) λ u q₁ r v.
      n_either q₁ v (stmt_numbers M.others M.list d n q₁ r v) (λ t q₂ s x. n_ok) (λ e q₂ s j x. failed_nums M.others M.list d e j n q₂ s x)

-- which errors can be met: numbers of errors; of these neither 24 nor 28, whatever follows an expression; and not 32, since no comma does

-- where 32 is among them
covers : {J : Error → Type 0} → ((e : Error) → ErrorBut three_never e → J e) → J Number.param_order → Covers J
covers others j = record { others = others; list = λ d h. list_nums others (at_depth d) h j }

pub covers_errors : Covers IsError
covers_errors = covers (error_of three_never) refl

pub covers_but_two : Covers (ErrorBut two_never)
covers_but_two = covers (λ e h. and_r (not (eqb e Number.param_order)) _ h) refl

-- where it is not
pub covers_but_three : Covers (ErrorBut three_never)
covers_but_three = record { others = λ e h. h; list = λ d h. ordered_list (λ e x. x) (at_depth d) h (no_comma_behind d) }

-- 0 is no error's number
t_zero : {X : List ℕ → Type 0} {A : Type 0} {n : ℕ} {q p : List Error} {r : List ℕ} → Top {A = A} IsError X n q (fail 0 p r) → X r
t_zero (t_end x) = x
t_zero (t_num (n_fail j w)) = absurd (false≢true j)

pub next_end : (d : ℕ) (ts : List ℕ) {p : List Error} {r : List ℕ} → next d [] ts ≡ fail 0 p r → start (length ts) [] ts ≡ fail 0 [] r
next_end d ts h = t_zero (rw h at (next_numbers covers_errors d 0 [] ts waits_none))

-- a statement that was read with errors leaves one that waits
pub bad_waits : (d : ℕ) (ts : List ℕ) {t : Tree} {q : List Error} {r : List ℕ} → next d [] ts ≡ bad t q r → 0 < length q
bad_waits d ts {t} {q} {r} h = go (rw h at (next_numbers covers_errors d 0 [] ts waits_none))
  where
    go : Top IsError (λ s. start (length ts) [] ts ≡ fail 0 [] s) 0 [] (bad t q r) → 0 < length q
    go (t_num (n_bad w l)) = l
