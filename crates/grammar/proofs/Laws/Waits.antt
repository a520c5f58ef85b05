-- What may wait, and what a reading may come to by its numbers: `Num`, its forms for what catches a failure and for a resynchronization, and their laws for each way to
-- put readings together, whatever errors J may wait and be on their way. Assumes nothing.
use Rattle.std.specs.Prelude.{◌≡◌, refl, Bool, true, false, cond, not, ◌&&◌, ℕ, suc, pred, ◌≤◌, ◌<◌, eqb, length}
use mathlib.Core.List.{List, [], ◌∷◌, ◌++◌}
use Rattle.std.proofs.Common.{arith, length-append}
use Rattle.std.proofs.lemmas.Bool.{eqb-false}
use Rattle.grammar.specs.Reading.Limit.{queue_limit, queue_full}
use Rattle.grammar.specs.Reading.Result.{Error, Res, ok, bad, fail, stop, unclean, either, then, ifb, push, pop}
use Rattle.grammar.specs.Reading.Number
use Rattle.grammar.specs.Reading.Expr.{keyword_alone}
use Rattle.grammar.specs.Reading.Primary.{atom_error}
use Rattle.grammar.specs.Reading.Stmt.{not_last}
use Rattle.grammar.specs.Reading.Next.{is_error, is_stop}
use Rattle.grammar.proofs.Laws.Facts.{and_r, if_tested, if_both}
use Rattle.grammar.proofs.Laws.Keep.{Success, k_ok, k_bad, k_fail, k_stop}

-- the number of an error that is none of these
abbrev pub is_error_but : List Error → ℕ → Bool
is_error_but [] e = is_error e
is_error_but (x ∷ xs) e = not (eqb e x) && is_error_but xs e

abbrev pub ErrorBut : List Error → Error → Type 0
ErrorBut xs e = is_error_but xs e ≡ true

-- it is an error's number
pub error_of : (xs : List Error) (e : Error) → ErrorBut xs e → is_error e ≡ true
error_of [] e h = h
error_of (x ∷ xs) e h = error_of xs e (and_r (not (eqb e x)) _ h)

-- the numbers that no sheet gives
abbrev pub two_never : List Error
two_never = Number.nested_ellipsis ∷ Number.params_closing ∷ []

abbrev pub three_never : List Error
three_never = Number.param_order ∷ two_never

-- the number of an error
abbrev pub IsError : Error → Type 0
IsError e = is_error e ≡ true

-- the number of a stop; 0 is none
abbrev pub IsStop : ℕ → Type 0
IsStop n = (is_stop n ≡ true) × (0 < n)

pub data All (J : Error → Type 0) : List Error → Type 0 where
  a_nil : All J []
  a_cons : {e : Error} {q : List Error} → J e → All J q → All J (e ∷ q)

-- what may wait: errors J, at least n of them, and no more than the queue takes
pub record Waits (J : Error → Type 0) (n : ℕ) (q : List Error) : Type 0 where
  pub errors : All J q
  pub few : length q ≤ queue_limit
  pub many : n ≤ length q

-- what waits after a reading may wait, a success with errors leaves one that waits, a failure has an error J, and a stop the number of a stop
pub data Num {A : Type 0} (J : Error → Type 0) (n : ℕ) : Res A → Type 0 where
  n_ok : {a : A} {r : List ℕ} → Num J n (ok a r)
  n_bad : {a : A} {q : List Error} {r : List ℕ} → Waits J n q → 0 < length q → Num J n (bad a q r)
  n_fail : {e : Error} {q : List Error} {r : List ℕ} → J e → Waits J n q → Num J n (fail e q r)
  n_stop : {k : ℕ} → IsStop k → Num J n (stop k)

-- the same of a reading that is no clean success, as what a failure is caught by
pub data Caught {A : Type 0} (J : Error → Type 0) (n : ℕ) : Res A → Type 0 where
  c_bad : {a : A} {q : List Error} {r : List ℕ} → Waits J n q → 0 < length q → Caught J n (bad a q r)
  c_fail : {e : Error} {q : List Error} {r : List ℕ} → J e → Waits J n q → Caught J n (fail e q r)
  c_stop : {k : ℕ} → IsStop k → Caught J n (stop k)

-- a resynchronization: it fails never, and where nothing waits before it nothing need wait after it
pub data Past (J : Error → Type 0) (n : ℕ) : Res (Unit {0}) → Type 0 where
  p_ok : {u : Unit {0}} {r : List ℕ} → Past J n (ok u r)
  p_bad : {u : Unit {0}} {q : List Error} {r : List ℕ} → Waits J n q → Past J n (bad u q r)
  p_stop : {k : ℕ} → IsStop k → Past J n (stop k)

module _ {J : Error → Type 0} where
  pub waits_none : Waits J 0 []
  waits_none = record { errors = a_nil; few = omega arith; many = omega arith }

  pub waits_less : {n : ℕ} {q : List Error} → Waits J (suc n) q → Waits J n q
  waits_less w = record { errors = w.errors; few = w.few; many = omega (arith, w.many) }

  -- an error joins the queue at its end, and leaves it at its front

  all_snoc : {q : List Error} (e : Error) → J e → All J q → All J (q ++ e ∷ [])
  all_snoc e j a_nil = a_cons j a_nil
  all_snoc e j (a_cons i a) = a_cons i (all_snoc e j a)

  waits_snoc : {n : ℕ} (e : Error) (q : List Error) → J e → Waits J n q → eqb (length q) queue_limit ≡ false → Waits J (suc n) (q ++ e ∷ [])
  waits_snoc e q j w h =
      let l = length-append q (e ∷ []) in
      record { errors = all_snoc e j w.errors; few = omega (arith, l, eqb-false (length q) queue_limit h); many = omega (arith, l, w.many) }

  pub waits_front : {n : ℕ} {e : Error} {q : List Error} → Waits J n (e ∷ q) → J e × Waits J (pred n) q
  waits_front {n} {e} {q} w = go w.errors
    where
      go : All J (e ∷ q) → J e × Waits J (pred n) q
      go (a_cons j a) = (j, record { errors = a; few = omega (arith, w.few); many = omega (arith, w.many) })

  -- what is caught is no longer clean
  pub n_caught : {A : Type 0} {n : ℕ} {d : Res A} → Caught J n d → Num J n d
  n_caught (c_bad w l) = n_bad w l
  n_caught (c_fail j w) = n_fail j w
  n_caught (c_stop p) = n_stop p

  -- each way to put readings together keeps this

  c_unclean : {A : Type 0} {n : ℕ} {q : List Error} {d : Res A} → Waits J n q → 0 < length q → Num J n d → Caught J n (unclean q d)
  unfolding unclean
  c_unclean w l n_ok = c_bad w l
  c_unclean w l (n_bad v k) = c_bad v k
  c_unclean w l (n_fail j v) = c_fail j v
  c_unclean w l (n_stop p) = c_stop p

  pub n_unclean : {A : Type 0} {n : ℕ} {q : List Error} {d : Res A} → Waits J n q → 0 < length q → Num J n d → Num J n (unclean q d)
  n_unclean w l h = n_caught (c_unclean w l h)

  pub n_then : {A B : Type 0} {n : ℕ} (q : List Error) {d : Res A} {go : A → List Error → List ℕ → Res B} → Waits J n q → Num J n d
      → ((a : A) (q : List Error) (r : List ℕ) → Waits J n q → Num J n (go a q r)) → Num J n (then q d go)
  unfolding then
  n_then q w n_ok f = f _ _ _ w
  n_then q w (n_bad v l) f = n_unclean v l (f _ _ _ v)
  n_then q w (n_fail j v) f = n_fail j v
  n_then q w (n_stop p) f = n_stop p

  -- where more is known of what the first one gives
  pub n_after : {A B : Type 0} {P : A → List ℕ → Type 0} {n : ℕ} (q : List Error) {d : Res A} {go : A → List Error → List ℕ → Res B} → Waits J n q → Num J n d → Success P d
      → ((a : A) (q : List Error) (r : List ℕ) → Waits J n q → P a r → Num J n (go a q r)) → Num J n (then q d go)
  unfolding then
  n_after q w n_ok (k_ok p) f = f _ _ _ w p
  n_after q w (n_bad v l) (k_bad p) f = n_unclean v l (f _ _ _ v p)
  n_after q w (n_fail j v) (k_fail p) f = n_fail j v
  n_after q w (n_stop x) k_stop f = n_stop x

  pub n_if : {A : Type 0} {n : ℕ} (b : Bool) {x y : Unit {0} → Res A} → ((u : Unit {0}) → Num J n (x u)) → ((u : Unit {0}) → Num J n (y u)) → Num J n (ifb b x y)
  n_if {n = n} b f g = if_both (Num J n) b f g

  pub n_tested : {A : Type 0} {n : ℕ} (b : Bool) {x y : Unit {0} → Res A} → ((u : Unit {0}) → b ≡ true → Num J n (x u)) → ((u : Unit {0}) → b ≡ false → Num J n (y u)) → Num J n (ifb b x y)
  n_tested {n = n} b f g = if_tested (Num J n) b f g

  pub c_then : {A B : Type 0} {n : ℕ} (q : List Error) {d : Res A} {go : A → List Error → List ℕ → Res B} → Caught J n d → ((a : A) (q : List Error) (r : List ℕ) → Waits J n q → Num J n (go a q r)) → Caught J n (then q d go)
  unfolding then
  c_then q (c_bad w l) f = c_unclean w l (f _ _ _ w)
  c_then q (c_fail j w) f = c_fail j w
  c_then q (c_stop p) f = c_stop p

  pub c_push : {A : Type 0} {n : ℕ} (e : Error) (q : List Error) {k : List Error → Res A} → J e → Waits J n q → ((q : List Error) → Waits J (suc n) q → Num J n (k q)) → Caught J n (push e q k)
  unfolding push
  c_push {n = n} e q j w f =
      if_tested (Caught J n) (eqb (length q) queue_limit)
      (λ u h. c_stop {k = queue_full} (refl, omega arith))
      (λ u h. let v = waits_snoc e q j w h in c_unclean (waits_less v) (omega (arith, v.many)) (f _ v))

  pub n_stays : {A : Type 0} {n : ℕ} {d : Res A} (q : List Error) → Caught J n d → Num J n (unclean q d)
  unfolding unclean
  n_stays q (c_bad w l) = n_bad w l
  n_stays q (c_fail j w) = n_fail j w
  n_stays q (c_stop p) = n_stop p

  pub n_push : {A : Type 0} {n : ℕ} (e : Error) (q : List Error) {k : List Error → Res A} → J e → Waits J n q → ((q : List Error) → Waits J (suc n) q → Num J n (k q)) → Num J n (push e q k)
  n_push e q j w f = n_caught (c_push e q j w f)

  pub n_either : {A B : Type 0} {n : ℕ} (q : List Error) {d : Res A} {go : A → List Error → List ℕ → Res B} {or : Error → List Error → List ℕ → Res B} → Waits J n q → Num J n d
      → ((a : A) (q : List Error) (r : List ℕ) → Waits J n q → Num J n (go a q r)) → ((e : Error) (q : List Error) (r : List ℕ) → J e → Waits J n q → Caught J n (or e q r))
      → Num J n (either q d go or)
  unfolding either
  n_either q w n_ok f g = f _ _ _ w
  n_either q w (n_bad v l) f g = n_unclean v l (f _ _ _ v)
  n_either q w (n_fail j v) f g = n_stays _ (g _ _ _ j v)
  n_either q w (n_stop p) f g = n_stop p

  pub n_pop : {A : Type 0} {n : ℕ} (q : List Error) (r : List ℕ) → Waits J (suc n) q → Caught {A = A} J n (pop q r)
  unfolding pop
  n_pop [] r w = absurd (omega (arith, w.many))
  n_pop (e ∷ q) r w = let (j, v) = waits_front w in c_fail j v

  p_unclean : {n : ℕ} {q : List Error} {d : Res (Unit {0})} → Waits J n q → Past J n d → Past J n (unclean q d)
  unfolding unclean
  p_unclean w p_ok = p_bad w
  p_unclean w (p_bad v) = p_bad v
  p_unclean w (p_stop k) = p_stop k

  pub p_either : {A : Type 0} {n : ℕ} (q : List Error) {d : Res A} {go : A → List Error → List ℕ → Res (Unit {0})} {or : Error → List Error → List ℕ → Res (Unit {0})} → Waits J n q → Num J n d
      → ((a : A) (q : List Error) (r : List ℕ) → Waits J n q → Past J n (go a q r)) → ((e : Error) (q : List Error) (r : List ℕ) → Waits J n q → Past J n (or e q r)) → Past J n (either q d go or)
  unfolding either
  p_either q w n_ok f g = f _ _ _ w
  p_either q w (n_bad v l) f g = p_unclean v (f _ _ _ v)
  p_either q w (n_fail j v) f g = p_unclean v (g _ _ _ v)
  p_either q w (n_stop k) f g = p_stop k

  pub p_if : {n : ℕ} (b : Bool) {x y : Unit {0} → Res (Unit {0})} → ((u : Unit {0}) → Past J n (x u)) → ((u : Unit {0}) → Past J n (y u)) → Past J n (ifb b x y)
  p_if {n = n} b f g = if_both (Past J n) b f g

  -- what follows it, where something waited; and a failure behind it
  pub n_behind : {n : ℕ} (q : List Error) {d : Res (Unit {0})} {go : Unit {0} → List Error → List ℕ → Res (Unit {0})} → Waits J (suc n) q → Past J (suc n) d
      → ((u : Unit {0}) (q : List Error) (r : List ℕ) → Waits J (suc n) q → Num J n (go u q r)) → Num J n (then q d go)
  unfolding then
  n_behind q w p_ok f = f _ _ _ w
  n_behind q w (p_bad v) f = n_unclean (waits_less v) (omega (arith, v.many)) (f _ _ _ v)
  n_behind q w (p_stop k) f = n_stop k

  pub c_failing : {A : Type 0} {n : ℕ} (q : List Error) {d : Res (Unit {0})} (e : Error) → J e → Waits J n q → Past J n d → Caught {A = A} J n (then q d λ u q r. fail e q r)
  unfolding then unclean
  c_failing q e j w p_ok = c_fail j w
  c_failing q e j w (p_bad v) = c_fail j v
  c_failing q e j w (p_stop k) = c_stop k

-- an error chosen among errors
e_cond : (b : Bool) (x y : Error) → ErrorBut three_never x → ErrorBut three_never y → ErrorBut three_never (cond b x y)
e_cond true x y i j = i
e_cond false x y i j = j

pub keyword_alone_is : (m : ℕ) → ErrorBut three_never (keyword_alone m)
keyword_alone_is m = search e_cond

pub atom_error_is : (k : ℕ) → ErrorBut three_never (atom_error k)
atom_error_is k = search e_cond depth 12

pub not_last_is : (k : ℕ) → ErrorBut three_never (not_last k)
not_last_is k = search e_cond

pub ruleset nums = (n_ok, n_fail, n_then, n_either, n_if, n_push, c_fail, c_then, keyword_alone_is, atom_error_is, not_last_is)
