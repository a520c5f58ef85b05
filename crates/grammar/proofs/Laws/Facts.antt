-- Tests as facts, beyond those of the library. Assumes nothing.
use Rattle.std.specs.Prelude.{◌≡◌, refl, ◌≢◌, Bool, true, false, ◌&&◌, ◌||◌, ℕ, max, eqb, leb}
use Rattle.std.proofs.Common.{ap, ◌∙◌, sym, true≢false, arith, eqb-true, ne_eqb, leb-true, leb-false, le-leb}
use Rattle.std.proofs.lemmas.Bool.{lt-leb}
use Rattle.grammar.specs.Reading.Result.{ifb}

-- a test that fails and passes
pub clash : {A : Type 0} {b : Bool} → b ≡ true → b ≡ false → A
clash p q = absurd (true≢false (sym p ∙ q))

pub not_true : (b : Bool) → b ≢ true → b ≡ false
not_true true h = absurd (h refl)
not_true false h = refl

-- what is c is not d
pub other : (k c d : ℕ) → eqb k c ≡ true → eqb c d ≡ false → eqb k d ≡ false
other k c d e h = rw (eqb-true k c e) h

-- two numbers are told apart by a test that one passes and the other fails
pub apart : (p : ℕ → Bool) (k c : ℕ) → p k ≡ true → p c ≡ false → eqb k c ≡ false
apart p k c h g = ne_eqb k c λ e. true≢false (sym h ∙ ap p e ∙ g)

pub and_l : (a b : Bool) → a && b ≡ true → a ≡ true
and_l true b e = refl
and_l false b e = e

pub and_r : (a b : Bool) → a && b ≡ true → b ≡ true
and_r true b e = e
and_r false b e = absurd (true≢false (sym e))

-- a test by cases, with what it came to
pub by_test : {P : Type 0} (b : Bool) → (b ≡ true → P) → (b ≡ false → P) → P
by_test true f g = f refl
by_test false f g = g refl

-- what holds of both parts of a choice, with what its test came to and without, holds of the choice
pub if_tested : {A : Type 0} (P : A → Type 0) (b : Bool) {x y : Unit {0} → A} → ((u : Unit {0}) → b ≡ true → P (x u)) → ((u : Unit {0}) → b ≡ false → P (y u)) → P (ifb b x y)
unfolding ifb
if_tested P true f g = f tt refl
if_tested P false f g = g tt refl

pub if_both : {A : Type 0} (P : A → Type 0) (b : Bool) {x y : Unit {0} → A} → ((u : Unit {0}) → P (x u)) → ((u : Unit {0}) → P (y u)) → P (ifb b x y)
if_both P b f g = if_tested P b (λ u e. f u) (λ u e. g u)

-- the same of two choices by one test
pub if_each : {A B : Type 0} (R : A → B → Type 0) (b : Bool) {x y : Unit {0} → A} {x' y' : Unit {0} → B} → ((u : Unit {0}) → R (x u) (x' u)) → ((u : Unit {0}) → R (y u) (y' u)) → R (ifb b x y) (ifb b x' y')
unfolding ifb
if_each R true f g = f tt
if_each R false f g = g tt

pub if_same : {A : Type 0} (b : Bool) {x y x' y' : Unit {0} → A} → ((u : Unit {0}) → x u ≡ x' u) → ((u : Unit {0}) → y u ≡ y' u) → ifb b x y ≡ ifb b x' y'
if_same b f g = if_each (λ a b. a ≡ b) b f g

-- one of two tests passed
pub or_true : {P : Type 0} (a b : Bool) → a || b ≡ true → (a ≡ true → P) → (b ≡ true → P) → P
or_true true b e f g = f refl
or_true false b e f g = g e

-- two tests that pass together
pub same_test : (a b : Bool) → (a ≡ true → b ≡ true) → (b ≡ true → a ≡ true) → a ≡ b
same_test true b f g = sym (f refl)
same_test false b f g = by_test b (λ e. g e ∙ sym e) sym

-- the more of two numbers is at most a third where both are
pub leb_max : (m n d : ℕ) → leb m d && leb n d ≡ leb (max m n) d
leb_max m n d =
    by_test (leb m d)
    (λ e. rw e (same_test (leb n d) (leb (max m n) d) (λ h. le-leb (max m n) d (omega (arith, leb-true))) (λ h. le-leb n d (omega (arith, leb-true)))))
    (λ e. rw e (sym (lt-leb (max m n) d (omega (arith, leb-false)))))
