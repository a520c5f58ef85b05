-- What holds of a clean success, and the laws by which it goes through the combinators. After an error there is no clean success. Assumes nothing.
use Rattle.std.specs.Prelude.{◌≡◌, ℕ, Bool, true, false, List}
use Rattle.grammar.specs.Reading.Result.{Error, Res, ok, bad, fail, stop, unclean, either, then, ifb, push}
use Rattle.grammar.proofs.Laws.Facts.{if_tested}
use Rattle.grammar.proofs.Laws.Keep.{Success, k_ok, k_bad, k_fail, k_stop}

pub data Post {A : Type 0} (P : A → List ℕ → Type 0) : Res A → Type 0 where
  p_ok : {a : A} {r : List ℕ} → P a r → Post P (ok a r)
  p_bad : {a : A} {q : List Error} {r : List ℕ} → Post P (bad a q r)
  p_fail : {e : Error} {q : List Error} {r : List ℕ} → Post P (fail e q r)
  p_stop : {n : ℕ} → Post P (stop n)

-- what holds of any success holds of a clean one
pub post_success : {A : Type 0} {P : A → List ℕ → Type 0} {d : Res A} → Success P d → Post P d
post_success (k_ok x) = p_ok x
post_success (k_bad x) = p_bad
post_success (k_fail x) = p_fail
post_success k_stop = p_stop

pub post_unclean : {A : Type 0} {P : A → List ℕ → Type 0} (q : List Error) (d : Res A) → Post P (unclean q d)
unfolding unclean
post_unclean q (ok a r) = p_bad
post_unclean q (bad a q' r) = p_bad
post_unclean q (fail e q' r) = p_fail
post_unclean q (stop n) = p_stop

pub post_then : {A B : Type 0} {Q : A → List ℕ → Type 0} {P : B → List ℕ → Type 0} (q : List Error) {d : Res A} {k : A → List Error → List ℕ → Res B}
    → Post Q d → ((a : A) (q : List Error) (r : List ℕ) → Q a r → Post P (k a q r)) → Post P (then q d k)
unfolding then
post_then q (p_ok x) h = h _ _ _ x
post_then q p_bad h = post_unclean _ _
post_then q p_fail h = p_fail
post_then q p_stop h = p_stop

pub post_either : {A B : Type 0} {Q : A → List ℕ → Type 0} {P : B → List ℕ → Type 0} (q : List Error) {d : Res A} {k : A → List Error → List ℕ → Res B} (or : Error → List Error → List ℕ → Res B)
    → Post Q d → ((a : A) (q : List Error) (r : List ℕ) → Q a r → Post P (k a q r)) → Post P (either q d k or)
unfolding either
post_either q or (p_ok x) h = h _ _ _ x
post_either q or p_bad h = post_unclean _ _
post_either q or p_fail h = post_unclean _ _
post_either q or p_stop h = p_stop

pub post_if : {A : Type 0} {P : A → List ℕ → Type 0} {b : Bool} {x y : Unit {0} → Res A}
    → ((u : Unit {0}) → b ≡ true → Post P (x u)) → ((u : Unit {0}) → b ≡ false → Post P (y u)) → Post P (ifb b x y)
post_if {P = P} {b = b} f g = if_tested (Post P) b f g

pub post_push : {A : Type 0} {P : A → List ℕ → Type 0} (e : Error) (q : List Error) (k : List Error → Res A) → Post P (push e q k)
unfolding push
post_push e q k = post_if (λ _ _. p_stop) (λ _ _. post_unclean _ _)

pub post_map : {A : Type 0} {P Q : A → List ℕ → Type 0} {d : Res A} → ((a : A) (r : List ℕ) → P a r → Q a r) → Post P d → Post Q d
post_map f (p_ok h) = p_ok (f _ _ h)
post_map f p_bad = p_bad
post_map f p_fail = p_fail
post_map f p_stop = p_stop

pub post_both : {A : Type 0} {P Q : A → List ℕ → Type 0} {d : Res A} → Post P d → Post Q d → Post (λ a r. P a r × Q a r) d
post_both (p_ok x) (p_ok y) = p_ok (x, y)
post_both p_bad y = p_bad
post_both p_fail y = p_fail
post_both p_stop y = p_stop
