-- What a reading comes to at a depth, and the equations of one step of a reading, each with what goes on as its last argument. Assumes nothing.
use Rattle.std.specs.Prelude.{◌≡◌, refl, Bool, true, false, cond, ◌&&◌, ◌||◌, List, ◌∷◌, ℕ, suc, ◌/◌, ◌%◌, ◌≤◌, ◌<◌, max, eqb, leb, ltb, Option, Some}
use Rattle.std.proofs.Common.{ap, ◌∙◌, le_refl, arith, ne_eqb, eq-eqb, le-leb, leb-true}
use Rattle.std.proofs.Math.Dec.{leb-zero, leb-suc-suc}
use Rattle.token.specs.Kind
use Rattle.token.specs.Look.{value_fits}
use Rattle.token.specs.declared.Token.{Token}
use Rattle.tree.specs.Tree.{Tree}
use Rattle.grammar.specs.Reading.Limit.{too_deep}
use Rattle.grammar.specs.Reading.Result.{Error, Res, ok, stop, either, then, ifb}
use Rattle.grammar.specs.Reading.Look.{looked, look, expect, expect_pattern}
use Rattle.std.proofs.lemmas.Bool.{lt-leb}
use Rattle.grammar.proofs.Laws.Facts.{and_l, and_r, leb_max}

-- a reading that a depth may not reach
unfoldable pub reach : {A : Type 0} → Bool → Res A → Res A
reach true x = x
reach false x = stop too_deep

-- a clean success, or the stop of one too deep
abbrev pub settle : {A : Type 0} → Bool → A → List ℕ → Res A
settle b a r = reach b (ok a r)

-- the reading x comes to y, which needs n depths, where there are d
pub record Needs {A : Type 0} (n d : ℕ) (x y : Res A) : Type 0 where
  pub is : x ≡ reach (leb n d) y

reach_both : {A : Type 0} (a b : Bool) (x : Res A) → reach a (reach b x) ≡ reach (a && b) x
unfolding reach
reach_both true b x = refl
reach_both false b x = refl

-- one after the other needs the more of both
pub both : {A : Type 0} {m n d : ℕ} {x y z : Res A} → Needs m d x y → Needs n d y z → Needs (max m n) d x z
both {m = m} {n = n} {d = d} {z = z} e h =
    record { is = e.is ∙ ap (reach (leb m d)) h.is ∙ reach_both (leb m d) (leb n d) z ∙ ap (λ b. reach b z) (leb_max m n d) }

-- nothing is needed where nothing is read
pub done : {A : Type 0} {d : ℕ} {x : Res A} → Needs 0 d x x
unfolding reach
done {d = d} = record { is = rw (leb-zero d) }

pub exactly : {A : Type 0} {d : ℕ} {x y : Res A} → x ≡ y → Needs 0 d x y
exactly e = rw e done

-- what is enough, and what is not
pub enough : {A : Type 0} {n d : ℕ} {x y : Res A} → Needs n d x y → n ≤ d → x ≡ y
unfolding reach
enough {n = n} {d = d} e h = e.is ∙ rw (le-leb n d h)

pub missed : {A : Type 0} {n d : ℕ} {y : Res A} → d < n → Needs n d (stop too_deep) y
unfolding reach
missed {n = n} {d = d} h = record { is = rw (lt-leb n d h) }

-- one depth further in
pub inside : {A : Type 0} {n d : ℕ} {x y : Res A} → Needs n d x y → Needs (suc n) (suc d) x y
inside {n = n} {d = d} e = record { is = rw (leb-suc-suc n d) e.is }

-- the number in another form
pub weigh : {A : Type 0} {m n d : ℕ} {x y : Res A} → Needs m d x y → m ≡ n → Needs n d x y
weigh e h = rw h at e

pub max_assoc : (a b c : ℕ) → max (max a b) c ≡ max a (max b c)
max_assoc a b c = omega arith

-- what a reading comes to, in another form
pub lands : {A : Type 0} {n d : ℕ} {x y z : Res A} → Needs n d x y → y ≡ z → Needs n d x z
lands h e = rw e at h

-- a step that needs nothing, and one that does
pub then_ok : {A B : Type 0} (q : List Error) {r : Res A} (k : A → List Error → List ℕ → Res B) {a : A} {s : List ℕ} {n d : ℕ} {y : Res B} → r ≡ ok a s → Needs n d (k a q s) y → Needs n d (then q r k) y
unfolding then
then_ok q k e h = rw e h

pub then_on : {A B : Type 0} (q : List Error) {r : Res A} (k : A → List Error → List ℕ → Res B) {a : A} {s : List ℕ} {m d : ℕ} → Needs m d r (ok a s) → Needs m d (then q r k) (k a q s)
unfolding then reach
then_on q k {a = a} {s = s} {m = m} {d = d} e = record { is = rw e.is (go (leb m d)) }
  where
    go : (b : Bool) → then q (reach b (ok a s)) k ≡ reach b (k a q s)
    go true = refl
    go false = refl

pub then_is : {A B : Type 0} (q : List Error) {r : Res A} (k : A → List Error → List ℕ → Res B) {a : A} {s : List ℕ} {m n d : ℕ} {y : Res B} → Needs m d r (ok a s) → Needs n d (k a q s) y → Needs (max m n) d (then q r k) y
then_is q k e h = both (then_on q k e) h

-- the same where an error would be caught
pub either_is : {A B : Type 0} (q : List Error) {r : Res A} (k : A → List Error → List ℕ → Res B) (l : Error → List Error → List ℕ → Res B) {a : A} {s : List ℕ} {m n d : ℕ} {y : Res B} → Needs m d r (ok a s) → Needs n d (k a q s) y → Needs (max m n) d (either q r k l) y
unfolding either reach
either_is q k l {a = a} {s = s} {m = m} {d = d} e h = both (record { is = rw e.is (go (leb m d)) }) h
  where
    go : (b : Bool) → either q (reach b (ok a s)) k l ≡ reach b (k a q s)
    go true = refl
    go false = refl

-- a choice
pub if_yes : {A : Type 0} {b : Bool} (f g : Unit {0} → Res A) {n d : ℕ} {y : Res A} → b ≡ true → Needs n d (f tt) y → Needs n d (ifb b f g) y
unfolding ifb
if_yes f g e h = rw e h

pub if_no : {A : Type 0} {b : Bool} (f g : Unit {0} → Res A) {n d : ℕ} {y : Res A} → b ≡ false → Needs n d (g tt) y → Needs n d (ifb b f g) y
unfolding ifb
if_no f g e h = rw e h

-- a token on its line, and the words that are one
abbrev pub word : ℕ → ℕ → Token
word k v = record { kind = k; newline = 0; value = v }

pub data Fits (k v : ℕ) : Type 0 where
  fits : ltb k Kind.LexerError && value_fits k v ≡ true → Fits k v

-- any kind goes without a value
pub symbol : (k : ℕ) → k < 76 → Fits k 0
symbol k h = fits (rw (le-leb (suc k) 76 h) (go (eqb k 69 || eqb k 70 || eqb k 73) (eqb k 71 || eqb k 72)))
  where
    go : (a b : Bool) → cond a true (b || true) ≡ true
    go true b = refl
    go false true = refl
    go false false = refl

pub see : (q s : List ℕ) {k v : ℕ} → Fits k v → look q (k ∷ v ∷ s) ≡ ok (word k v) s
unfolding look looked
see q s {k} {v} (fits h) =
    let l = leb-true (suc k) 76 (and_l (ltb k 76) (value_fits k v) h) in
    let e : k % 256 ≡ k = omega arith in
    let f : k / 256 ≡ 0 = omega arith in
    rw (e, f, and_r (ltb k 76) (value_fits k v) h, le-leb k 76 (omega arith), ne_eqb k 76 (omega arith))

pub sees : {A : Type 0} (q s : List ℕ) (go : Token → List Error → List ℕ → Res A) {k v n d : ℕ} {y : Res A} → Fits k v → Needs n d (go (word k v) q s) y → Needs n d (then q (look q (k ∷ v ∷ s)) go) y
sees q s go h g = then_ok q go (see q s h) g

-- a token that is expected
pub expects : {A : Type 0} (q s : List ℕ) (e : Error) (go : Token → List Error → List ℕ → Res A) {k v n d : ℕ} {y : Res A} → Fits k v → Needs n d (go (word k v) q s) y → Needs n d (then q (expect k e q (k ∷ v ∷ s)) go) y
unfolding expect
expects q s e go {k = k} h g = then_ok q go (enough (sees q s _ h (if_yes _ _ (eq-eqb k k refl) done)) (le_refl 0)) g

-- an expression that is a pattern
pub converted : (q ts : List ℕ) (e : Error) {m : Option Tree} {p : Tree} → m ≡ Some p → expect_pattern e m q ts ≡ ok p ts
unfolding expect_pattern
converted q ts e h = rw h

pub converts : {A : Type 0} (q ts : List ℕ) (e : Error) (go : Tree → List Error → List ℕ → Res A) {m : Option Tree} {p : Tree} {n d : ℕ} {y : Res A} → m ≡ Some p → Needs n d (go p q ts) y → Needs n d (then q (expect_pattern e m q ts) go) y
converts q ts e go h g = then_ok q go (converted q ts e h) g

-- what a step is given, in another form
pub along : {A B : Type 0} (f : A → Res B) {a b : A} {n d : ℕ} {y : Res B} → a ≡ b → Needs n d (f b) y → Needs n d (f a) y
along f e h = rw e h
