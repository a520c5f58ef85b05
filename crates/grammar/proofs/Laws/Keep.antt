-- What holds of what a reading gives and of the words that it leaves, after a success, clean or with errors, and after a failure, and its law for each way to put
-- readings together. Assumes nothing.
use Rattle.std.specs.Prelude.{◌≡◌, Bool, true, false, ℕ}
use mathlib.Core.List.{List, [], ◌∷◌}
use Rattle.grammar.specs.Reading.Result.{Error, Res, ok, bad, fail, stop, unclean, either, then, ifb, push, pop}
use Rattle.grammar.specs.Reading.Expr.{Depth}
use Rattle.grammar.specs.Reading.Next.{front}
use Rattle.grammar.proofs.Laws.Facts.{if_tested, if_both}

-- of what a success gives and leaves P holds, of a failure's error and of what it leaves J
pub data Yields {A : Type 0} (P : A → List ℕ → Type 0) (J : Error → List ℕ → Type 0) : Res A → Type 0 where
  k_ok : {a : A} {r : List ℕ} → P a r → Yields P J (ok a r)
  k_bad : {a : A} {q : List Error} {r : List ℕ} → P a r → Yields P J (bad a q r)
  k_fail : {e : Error} {q : List Error} {r : List ℕ} → J e r → Yields P J (fail e q r)
  k_stop : {n : ℕ} → Yields P J (stop n)

-- of a success alone, and of what it gives alone
abbrev pub Success : {A : Type 0} → (A → List ℕ → Type 0) → Res A → Type 0
Success P = Yields P (λ e r. Unit {0})

abbrev pub Holds : {A : Type 0} → (A → Type 0) → Res A → Type 0
Holds P = Success (λ a r. P a)

-- of the words alone: of what a success leaves I holds
abbrev pub Keep : {A : Type 0} → (List ℕ → Type 0) → (Error → List ℕ → Type 0) → Res A → Type 0
Keep I J = Yields (λ a. I) J

-- I goes on holding as a token is taken
abbrev pub Kept : (List ℕ → Type 0) → Type 0
Kept I = (w v : ℕ) (r : List ℕ) → I (w ∷ v ∷ r) → I r

-- where a reading that takes a token may start: where I holds, or before a token behind which it holds
pub data Near (I : List ℕ → Type 0) : List ℕ → Type 0 where
  here : {ts : List ℕ} → I ts → Near I ts
  past : {w v : ℕ} {r : List ℕ} → I r → Near I (w ∷ v ∷ r)

-- a law that says less
pub k_weaken : {A : Type 0} {P M : A → List ℕ → Type 0} {J N : Error → List ℕ → Type 0} {d : Res A}
    → ((a : A) (r : List ℕ) → M a r → P a r) → ((e : Error) (r : List ℕ) → N e r → J e r) → Yields M N d → Yields P J d
k_weaken f g (k_ok i) = k_ok (f _ _ i)
k_weaken f g (k_bad i) = k_bad (f _ _ i)
k_weaken f g (k_fail j) = k_fail (g _ _ j)
k_weaken f g k_stop = k_stop

-- a law that holds of anything
pub k_all : {A : Type 0} {P : A → List ℕ → Type 0} {J : Error → List ℕ → Type 0} → ((a : A) (r : List ℕ) → P a r) → ((e : Error) (r : List ℕ) → J e r) → (x : Res A) → Yields P J x
k_all h k (ok a r) = k_ok (h a r)
k_all h k (bad a q r) = k_bad (h a r)
k_all h k (fail e q r) = k_fail (k e r)
k_all h k (stop n) = k_stop

-- two laws as one
pub k_both : {A : Type 0} {P M : A → List ℕ → Type 0} {J N : Error → List ℕ → Type 0} {d : Res A} → Yields P J d → Yields M N d → Yields (λ a r. P a r × M a r) (λ e r. J e r × N e r) d
k_both (k_ok i) (k_ok j) = k_ok (i, j)
k_both (k_bad i) (k_bad j) = k_bad (i, j)
k_both (k_fail i) (k_fail j) = k_fail (i, j)
k_both k_stop k_stop = k_stop

-- each way to put readings together, where the first one has a law of its own
module _ {B : Type 0} {P : B → List ℕ → Type 0} {J : Error → List ℕ → Type 0} where
  pub k_unclean : (q : List Error) {d : Res B} → Yields P J d → Yields P J (unclean q d)
  unfolding unclean
  k_unclean q (k_ok i) = k_bad i
  k_unclean q (k_bad i) = k_bad i
  k_unclean q (k_fail j) = k_fail j
  k_unclean q k_stop = k_stop

  pub k_or : {A : Type 0} {M : A → List ℕ → Type 0} {N : Error → List ℕ → Type 0} (q : List Error) {d : Res A} {go : A → List Error → List ℕ → Res B} {or : Error → List Error → List ℕ → Res B}
      → Yields M N d → ((a : A) (q : List Error) (r : List ℕ) → M a r → Yields P J (go a q r)) → ((e : Error) (q : List Error) (r : List ℕ) → N e r → Yields P J (or e q r))
      → Yields P J (either q d go or)
  unfolding either
  k_or q (k_ok i) f g = f _ _ _ i
  k_or q (k_bad i) f g = k_unclean _ (f _ _ _ i)
  k_or q (k_fail j) f g = k_unclean _ (g _ _ _ j)
  k_or q k_stop f g = k_stop

  pub k_on : {A : Type 0} {M : A → List ℕ → Type 0} (q : List Error) {d : Res A} {go : A → List Error → List ℕ → Res B}
      → Yields M J d → ((a : A) (q : List Error) (r : List ℕ) → M a r → Yields P J (go a q r)) → Yields P J (then q d go)
  unfolding then
  k_on q (k_ok i) f = f _ _ _ i
  k_on q (k_bad i) f = k_unclean _ (f _ _ _ i)
  k_on q (k_fail j) f = k_fail j
  k_on q k_stop f = k_stop

  pub k_tested : (b : Bool) {x y : Unit {0} → Res B} → ((u : Unit {0}) → b ≡ true → Yields P J (x u)) → ((u : Unit {0}) → b ≡ false → Yields P J (y u)) → Yields P J (ifb b x y)
  k_tested b f g = if_tested (Yields P J) b f g

  pub k_if : (b : Bool) {x y : Unit {0} → Res B} → ((u : Unit {0}) → Yields P J (x u)) → ((u : Unit {0}) → Yields P J (y u)) → Yields P J (ifb b x y)
  k_if b f g = if_both (Yields P J) b f g

  pub k_push : (e : Error) (q : List Error) {k : List Error → Res B} → ((q : List Error) → Yields P J (k q)) → Yields P J (push e q k)
  unfolding push
  k_push e q f = k_if _ (λ u. k_stop) (λ u. k_unclean _ (f _))

  pub k_front : (q : List Error) {k : Error → List Error → Res B} → ((e : Error) (q : List Error) → Yields P J (k e q)) → Yields P J (front q k)
  unfolding front
  k_front [] f = k_stop
  k_front (e ∷ q) f = f e q

-- of a success nothing is asked where there is none, and nothing of the reading before it
pub k_failed : {A : Type 0} {P : A → List ℕ → Type 0} {e : Error} {q : List Error} {r : List ℕ} → Success P (fail e q r)
k_failed = k_fail tt

pub k_any : {A B : Type 0} {P : B → List ℕ → Type 0} (q : List Error) (d : Res A) {go : A → List Error → List ℕ → Res B} → ((a : A) (q : List Error) (r : List ℕ) → Success P (go a q r)) → Success P (then q d go)
k_any q d f = k_on {M = λ a r. Unit {0}} q (k_all (λ a r. tt) (λ e r. tt) d) (λ a q r u. f a q r)

-- the same of the words alone
module _ {I : List ℕ → Type 0} {J : Error → List ℕ → Type 0} where
  pub k_lose : {A : Type 0} {d : Res A} → ((e : Error) (r : List ℕ) → I r → J e r) → Keep I (λ e. I) d → Keep I J d
  k_lose = k_weaken (λ a r i. i)

  -- where the first has the same law
  pub k_either : {A B : Type 0} (q : List Error) {d : Res A} {go : A → List Error → List ℕ → Res B} {or : Error → List Error → List ℕ → Res B}
      → Keep I J d → ((a : A) (q : List Error) (r : List ℕ) → I r → Keep I J (go a q r)) → ((e : Error) (q : List Error) (r : List ℕ) → J e r → Keep I J (or e q r))
      → Keep I J (either q d go or)
  k_either = k_or

  pub k_then : {A B : Type 0} (q : List Error) {d : Res A} {go : A → List Error → List ℕ → Res B}
      → Keep I J d → ((a : A) (q : List Error) (r : List ℕ) → I r → Keep I J (go a q r)) → Keep I J (then q d go)
  k_then = k_on

  -- where it may have taken no token
  pub k_near : {A B : Type 0} (q : List Error) {d : Res A} {go : A → List Error → List ℕ → Res B}
      → Keep (Near I) J d → ((a : A) (q : List Error) (r : List ℕ) → Near I r → Keep I J (go a q r)) → Keep I J (then q d go)
  k_near = k_on

module _ (I : List ℕ → Type 0) where
  -- a reading that starts at its first token, and one that starts behind it or may take none
  abbrev pub First : {A : Type 0} → (List Error → List ℕ → Res A) → Type 0
  First f = (q : List Error) (ts : List ℕ) → Near I ts → Keep I (λ e. I) (f q ts)

  abbrev pub Behind : {A : Type 0} → (List Error → List ℕ → Res A) → Type 0
  Behind f = (q : List Error) (ts : List ℕ) → I ts → Keep I (λ e. I) (f q ts)

  pub record Keeps (low : Depth) : Type 0 where
    pub k_unary : First low.unary
    pub k_right : First low.right
    pub k_list : (end : ℕ) → Behind (low.list end)

  pub k_pop : {A : Type 0} (q : List Error) {r : List ℕ} → I r → Keep {A = A} I (λ e. I) (pop q r)
  unfolding pop
  k_pop [] i = k_fail i
  k_pop (e ∷ q) i = k_fail i

pub ruleset keeps = (k_ok, k_bad, k_fail, k_stop, k_then, k_near, k_either, k_if, k_push, k_pop, k_front, here)

-- where nothing is asked of the readings before
pub ruleset successes = (k_ok, k_failed, k_any, k_if)
