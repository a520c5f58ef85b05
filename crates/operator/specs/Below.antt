-- A rule of every number below a bound, from one test that antt computes. Assumes nothing.
use Rattle.std.specs.Prelude.{◌≡◌, Bool, true, false, ◌&&◌, ◌||◌, ℕ, zero, suc, ◌+◌, ◌≤◌, ◌<◌, T, eqb, leb}
use Rattle.std.proofs.Common.{sym, subst, ⊎_elim, le_of_suc-le-suc, not-suc-le-zero, eq-or-lt_of_le, arith, eqb→eq, leb→le}
use Rattle.std.proofs.Math.Path.{subst⁻¹}

pub and_left : (a b : Bool) → T (a && b) → T a
and_left true b t = tt
and_left false b t = t

pub and_right : (a b : Bool) → T (a && b) → T b
and_right true b t = t
and_right false b t = absurd t

or_right : (a b : Bool) → T (a || b) → (T a → ⊥) → T b
or_right true b t n = absurd (n tt)
or_right false b t n = t

abbrev pub below : (ℕ → Bool) → ℕ → Bool
below test zero = true
below test (suc n) = test n && below test n

each_below : (test : ℕ → Bool) (n : ℕ) → T (below test n) → (k : ℕ) → k < n → T (test k)
each_below test zero t k h = absurd (not-suc-le-zero h)
each_below test (suc n) t k h =
    ⊎_elim (λ e. subst (λ (m : ℕ). T (test m)) (sym e) (and_left (test n) (below test n) t))
    (λ l. each_below test n (and_right (test n) (below test n) t) k l)
    (eq-or-lt_of_le (le_of_suc-le-suc h))

-- two functions are equal
pub equal_below : (f g : ℕ → ℕ) (n : ℕ) → T (below (λ k. eqb (f k) (g k)) n) → (k : ℕ) → k < n → f k ≡ g k
equal_below f g n t k h = eqb→eq (f k) (g k) (each_below (λ k. eqb (f k) (g k)) n t k h)

-- a function is at most another
pub most_below : (f g : ℕ → ℕ) (n : ℕ) → T (below (λ k. leb (f k) (g k)) n) → (k : ℕ) → k < n → f k ≤ g k
most_below f g n t k h = leb→le (f k) (g k) (each_below (λ k. leb (f k) (g k)) n t k h)

-- where a code is not 0, a function leads back
pub back_below : (code back : ℕ → ℕ) (n : ℕ) → T (below (λ k. eqb (code k) 0 || eqb (back k) k) n) → (k : ℕ) → k < n → 0 < code k → back k ≡ k
back_below code back n t k h p =
    eqb→eq (back k) k
    (or_right (eqb (code k) 0) (eqb (back k) k)
    (each_below (λ k. eqb (code k) 0 || eqb (back k) k) n t k h)
    λ z. let e = eqb→eq (code k) 0 z in omega arith)

-- the sum of a function's values; where it is 0, each of them is
abbrev pub sum_below : (ℕ → ℕ) → ℕ → ℕ
sum_below f zero = 0
sum_below f (suc n) = f n + sum_below f n

pub none_below : (f : ℕ → ℕ) (n : ℕ) → sum_below f n ≡ 0 → (k : ℕ) → k < n → f k ≡ 0
none_below f zero e k h = absurd (not-suc-le-zero h)
none_below f (suc n) e k h =
    ⊎_elim (λ q. subst⁻¹ (λ (m : ℕ). f m ≡ 0) q (omega arith))
    (λ l. none_below f n (omega arith) k l)
    (eq-or-lt_of_le (le_of_suc-le-suc h))

-- 0 if a test passes, 1 if it does not
abbrev pub fails : Bool → ℕ
fails true = 0
fails false = 1

pub passes : (b : Bool) → fails b ≡ 0 → T b
passes true e = tt
passes false e = omega arith
