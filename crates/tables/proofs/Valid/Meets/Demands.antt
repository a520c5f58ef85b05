-- Laws of demands: when a class that meets one meets another. Assumes nothing.
use Rattle.std.specs.Prelude.{◌≡◌, refl, Bool, true, false, cond, ◌&&◌, ◌||◌, ℕ, ◌/◌, ◌%◌, ◌≤◌, eqb, ltb, leb}
use Rattle.std.proofs.Common.{arith, eqb-true, leb-true, ltb-false, eq-eqb, le-leb, le-ltb}
use Rattle.grammar.proofs.Laws.Facts.{clash, and_l, and_r, by_test, or_true}
use Rattle.tables.specs.Demand.{fits}

-- a row of a table, by both its sides
pub either : (P : ℕ → Type 0) (b : Bool) {x y : ℕ} → P x → P y → P (cond b x y)
either P true p q = p
either P false p q = q

-- a class meets a demand by its bounds, or as the other one
pub fits_between : (d c : ℕ) → d % 100 ≤ c → c ≤ d / 100 % 100 → fits d c ≡ true
unfolding fits
fits_between d c l u =
    by_test (eqb c (d / 10000))
    (λ e. rw e)
    (λ e. rw (e, le-ltb c (d % 100), le-leb c (d / 100 % 100)))

fits_other : (d c : ℕ) → c ≡ d / 10000 → fits d c ≡ true
unfolding fits
fits_other d c e = rw (eq-eqb c (d / 10000) e)

-- the two ways, of a class that meets a demand
pub by_fits : {P : Type 0} (d c : ℕ) → fits d c ≡ true → (d % 100 ≤ c → c ≤ d / 100 % 100 → P) → (c ≡ d / 10000 → P) → P
unfolding fits
by_fits d c h f g =
    by_test (eqb c (d / 10000))
    (λ e. g (eqb-true c (d / 10000) e))
    (λ e. by_test (ltb c (d % 100))
    (λ l. clash (rw (e, l) at h) refl)
    (λ l. f (ltb-false c (d % 100) l) (leb-true c (d / 100 % 100) (rw (e, l) at h))))

-- whatever meets the demand d meets the demand e
abbrev same_other : ℕ → ℕ → Bool
same_other d e = eqb (d / 10000) 0 || eqb (d / 10000) (e / 10000)

unfoldable pub within : ℕ → ℕ → Bool
within d e = (leb (e % 100) (d % 100) && leb (d / 100 % 100) (e / 100 % 100)) && same_other d e

pub fits_up : (d e c : ℕ) → within d e ≡ true → 1 ≤ c → fits d c ≡ true → fits e c ≡ true
unfolding within
fits_up d e c w p h =
    let bounds = and_l (leb (e % 100) (d % 100) && leb (d / 100 % 100) (e / 100 % 100)) (same_other d e) w in
    let low : e % 100 ≤ d % 100 = leb-true (e % 100) (d % 100) (and_l (leb (e % 100) (d % 100)) (leb (d / 100 % 100) (e / 100 % 100)) bounds) in
    let high : d / 100 % 100 ≤ e / 100 % 100 = leb-true (d / 100 % 100) (e / 100 % 100) (and_r (leb (e % 100) (d % 100)) (leb (d / 100 % 100) (e / 100 % 100)) bounds) in
    by_fits d c h
    (λ l u. fits_between e c (omega arith) (omega arith))
    (λ q. or_true (eqb (d / 10000) 0) (eqb (d / 10000) (e / 10000)) (and_r (leb (e % 100) (d % 100) && leb (d / 100 % 100) (e / 100 % 100)) (same_other d e) w)
    (λ z. let none : d / 10000 ≡ 0 = eqb-true (d / 10000) 0 z in absurd (omega arith))
    (λ s. let same : d / 10000 ≡ e / 10000 = eqb-true (d / 10000) (e / 10000) s in fits_other e c (omega arith)))

pub within_same : (d : ℕ) → within d d ≡ true
unfolding within
within_same d = rw (le-leb (d % 100) (d % 100) (omega arith), le-leb (d / 100 % 100) (d / 100 % 100) (omega arith), eq-eqb (d / 10000) (d / 10000) refl, or_right (eqb (d / 10000) 0))
  where
    or_right : (a : Bool) → a || true ≡ true
    or_right true = refl
    or_right false = refl
