-- Laws of the definition's ways to put readings together. Assumes nothing.
use mathlib.Core.Path.{◌≡◌, refl, sym, ap}
use mathlib.Core.Bool.{Bool, true, false}
use mathlib.Core.List.{List, [], ◌∷◌}
use Prim.Native.Nat.{ℕ}
use Rattle.token.specs.Look.{seen_word}
use Rattle.token.specs.declared.Token.{Token}
use Rattle.std.proofs.Common.{Result, Ok, Err}
use Rattle.token.specs.declared.Unread.{Unread}
use Rattle.token.specs.declared.Unread.TheVariants.{LexerError, Nothing, Bad}
use Rattle.grammar.specs.Reading.Result.{Res, ok, bad, fail, stop, unclean, either, then, ifb, Error}
use Rattle.grammar.specs.Reading.Look.{looked, look}
use native.Mathlib.Omega.{arith}

unclean_twice : {A : Type 0} (q q' : List Error) (d : Res A) → unclean q (unclean q' d) ≡ unclean q' d
unfolding unclean
unclean_twice q q' (ok a r) = refl
unclean_twice q q' (bad a q'' r) = refl
unclean_twice q q' (fail e q'' r) = refl
unclean_twice q q' (stop n) = refl

then_unclean : {A B : Type 0} (q q' : List Error) (d : Res A) (k : A → List Error → List ℕ → Res B) → then q (unclean q' d) k ≡ unclean q' (then q' d k)
unfolding unclean then
then_unclean q q' (ok a r) k = refl
then_unclean q q' (bad a q'' r) k = sym (unclean_twice q' q'' (k a q'' r))
then_unclean q q' (fail e q'' r) k = refl
then_unclean q q' (stop n) k = refl

-- behind what failed, and what read
pub then_fail : {A B : Type 0} (q : List Error) {e : ℕ} {q' : List Error} {r : List ℕ} (k : A → List Error → List ℕ → Res B) → then q (fail e q' r) k ≡ fail e q' r
unfolding then
then_fail q k = refl

pub then_ok : {A B : Type 0} (q : List Error) {a : A} {r : List ℕ} (k : A → List Error → List ℕ → Res B) → then q (ok a r) k ≡ k a q r
unfolding then
then_ok q k = refl

-- three readings after another
pub then_then : {A B C : Type 0} (q : List Error) (d : Res A) (f : A → List Error → List ℕ → Res B) (k : B → List Error → List ℕ → Res C) → then q (then q d f) k ≡ then q d (λ a q₁ r. then q₁ (f a q₁ r) k)
unfolding then
then_then q (ok a r) f k = refl
then_then q (bad a q₁ r) f k = then_unclean q q₁ (f a q₁ r) k
then_then q (fail e q₁ r) f k = refl
then_then q (stop n) f k = refl

pub then_either : {A B C : Type 0} (q : List Error) (d : Res A) (go : A → List Error → List ℕ → Res B) (or : ℕ → List Error → List ℕ → Res B) (k : B → List Error → List ℕ → Res C)
    → then q (either q d go or) k ≡ either q d (λ a q₁ r. then q₁ (go a q₁ r) k) (λ e q₁ r. then q₁ (or e q₁ r) k)
unfolding then either
then_either q (ok a r) go or k = refl
then_either q (bad a q₁ r) go or k = then_unclean q q₁ (go a q₁ r) k
then_either q (fail e q₁ r) go or k = then_unclean q q₁ (or e q₁ r) k
then_either q (stop n) go or k = refl

pub then_if : {A B : Type 0} (q : List Error) (b : Bool) (x y : Unit {0} → Res A) (k : A → List Error → List ℕ → Res B) → then q (ifb b x y) k ≡ ifb b (λ u. then q (x u) k) (λ u. then q (y u) k)
unfolding ifb
then_if q true x y k = refl
then_if q false x y k = refl

-- the same, if its parts are
pub then_same : {A B : Type 0} (q : List Error) (d : Res A) {f g : A → List Error → List ℕ → Res B} → ((a : A) (q : List Error) (r : List ℕ) → f a q r ≡ g a q r) → then q d f ≡ then q d g
unfolding then
then_same q (ok a r) h = h a q r
then_same q (bad a q₁ r) h = ap (unclean q₁) (h a q₁ r)
then_same q (fail e q₁ r) h = refl
then_same q (stop n) h = refl

pub either_same : {A B : Type 0} (q : List Error) (d : Res A) {f g : A → List Error → List ℕ → Res B} {x y : ℕ → List Error → List ℕ → Res B} → ((a : A) (q : List Error) (r : List ℕ) → f a q r ≡ g a q r) → ((e : ℕ) (q : List Error) (r : List ℕ) → x e q r ≡ y e q r) → either q d f x ≡ either q d g y
unfolding either
either_same q (ok a r) h i = h a q r
either_same q (bad a q₁ r) h i = ap (unclean q₁) (h a q₁ r)
either_same q (fail e q₁ r) h i = ap (unclean q₁) (i e q₁ r)
either_same q (stop n) h i = refl

-- a look adds no error
pub data Plain {A : Type 0} : Res A → Type 0 where
  an_ok : {a : A} {r : List ℕ} → Plain (ok a r)
  a_fail : {e : ℕ} {q : List Error} {r : List ℕ} → Plain (fail e q r)
  a_stop : {n : ℕ} → Plain (stop n)

looked_plain : (q : List Error) (r : List ℕ) (s : (Result Token Unread)) → Plain (looked q r s)
unfolding looked
looked_plain q r (Ok tok) = an_ok
looked_plain q r (Err LexerError) = a_fail
looked_plain q r (Err Nothing) = a_fail
looked_plain q r (Err Bad) = a_stop

pub plain_not_bad : {A : Type 0} {d : Res A} {a : A} {q : List Error} {r : List ℕ} → Plain d → d ≡ bad a q r → ⊥
plain_not_bad an_ok e = let z : ◌≡◌ {A = ℕ} 0 1 = cc in omega arith
plain_not_bad a_fail e = let z : ◌≡◌ {A = ℕ} 0 1 = cc in omega arith
plain_not_bad a_stop e = let z : ◌≡◌ {A = ℕ} 0 1 = cc in omega arith

pub look_plain : (q : List Error) (ts : List ℕ) → Plain (look q ts)
unfolding look
look_plain q [] = a_fail
look_plain q (w ∷ []) = a_fail
look_plain q (w ∷ (v ∷ r)) = looked_plain q r (seen_word w v)

pub plain_then : {A B C : Type 0} (q : List Error) {d : Res A} → Plain d → (f : A → List Error → List ℕ → Res B) (g : A → List Error → List ℕ → Res C) (k : B → List Error → List ℕ → Res C) → ((a : A) (r : List ℕ) → then q (f a q r) k ≡ g a q r) → then q (then q d f) k ≡ then q d g
unfolding then
plain_then q an_ok f g k h = h _ _
plain_then q a_fail f g k h = refl
plain_then q a_stop f g k h = refl

plain_known : {A B : Type 0} (q : List Error) {d d₀ : Res A} → Plain d → d₀ ≡ d → (f g : A → List Error → List ℕ → Res B) → ((a : A) (r : List ℕ) → d₀ ≡ ok a r → f a q r ≡ g a q r) → then q d f ≡ then q d g
unfolding then
plain_known q an_ok e f g h = h _ _ e
plain_known q a_fail e f g h = refl
plain_known q a_stop e f g h = refl

-- what goes on behind a look and more
pub look_then : {B C : Type 0} (q : List Error) (ts : List ℕ) (f : Token → List Error → List ℕ → Res B) (g : Token → List Error → List ℕ → Res C) (k : B → List Error → List ℕ → Res C) → ((tok : Token) (r : List ℕ) → then q (f tok q r) k ≡ g tok q r) → then q (then q (look q ts) f) k ≡ then q (look q ts) g
look_then q ts f g k h = plain_then q (look_plain q ts) f g k h

-- behind a look, whose token is known
pub look_known : {B : Type 0} (q : List Error) (ts : List ℕ) (f g : Token → List Error → List ℕ → Res B) → ((tok : Token) (r : List ℕ) → look q ts ≡ ok tok r → f tok q r ≡ g tok q r) → then q (look q ts) f ≡ then q (look q ts) g
look_known q ts f g h = plain_known q (look_plain q ts) refl f g h
