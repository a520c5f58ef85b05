-- The text at the output's end, and tokens before it. Assumes nothing.
use mathlib.Core.Path.{◌≡◌, refl, ap, ◌∙◌}
use mathlib.Core.List.{List, [], ◌∷◌}
use Prim.Native.Nat.{ℕ, zero, suc, ◌+◌, ◌-◌, ◌≤◌, ◌<◌}
use native.Mathlib.Numerals.{add-two}
use native.Mathlib.Omega.{arith}
use lib.Dec.{eqb}
use borrow.Author.Tests.{ne_eqb, eqb-true, eqb-false}
use lib.ListN.{length, drop, get_or, set, length-set, length-drop}
use lib.Seq.{get_or-set_same, get_or-set_other, drop-set-lt, drop-length}
use Rattle.std.specs.declared.option.Option.TheVariants.{Some, None}
use Rattle.grammar.proofs.Laws.Facts.{by_test}
use Rattle.tables.specs.Operators.{NoToken}
use Rattle.output.specs.Text.{HoldsAs, Holds}
use Rattle.writer.specs.Text.{token_in, Put, Opened, Closed}
use Rattle.tables.specs.Layout.{emit, opened, closed}
use Rattle.tables.specs.Tokens.{first_token, second_token, third_token, behind_token, last_token, carried}
use Rattle.writer.proofs.Shaping.{drop_two}

pub holds_all : (S : List ℕ) → Holds (length S + 2) S []
holds_all S = rw (add-two (length S)) (record { how = (omega arith, drop-length S) })

-- the kind of no token, and that of one
pub kind_none : {c : ℕ} → None ≡ token_in c → c ≡ NoToken
unfolding token_in
kind_none {c} e =
    by_test (eqb c NoToken) (λ x. eqb-true c NoToken x) λ x.
    let clash : None ≡ Some c = e ∙ rw x in
    absurd cc

pub kind_some : {c k : ℕ} → Some k ≡ token_in c → (k ≡ c) × (c ≡ NoToken → ⊥)
unfolding token_in
kind_some {c} {k} e =
    by_test (eqb c NoToken)
    (λ x.
    let clash : Some k ≡ None = e ∙ rw x in
    absurd cc)
    (λ x.
    let same : Some k ≡ Some c = e ∙ rw x in
    (cc, eqb-false c NoToken x))

-- a text has room for its token or not, at most two words before it
pub put_none : {a c v : ℕ} {S : List ℕ} → c ≡ NoToken → a ≤ length S + 2 → Put c v a a S S
unfolding emit
put_none e b = record { how = λ X h. rw e h; long = refl; room = b }

emitted : (c v : ℕ) (X : List ℕ) → (c ≡ NoToken → ⊥) → emit c v X ≡ c ∷ v ∷ X
unfolding emit
emitted c v X n = rw (ne_eqb c NoToken n)

short_as : (a : ℕ) (S X : List ℕ) → a < 4 → HoldsAs a S X → length S < suc (suc (length X))
short_as zero S X l h = omega arith
short_as (suc zero) S X l h = omega arith
short_as (suc (suc a)) S X l h = omega (arith, length-drop a S, ap length h.1, h.0)

pub put_short : {a c v : ℕ} {S : List ℕ} → (c ≡ NoToken → ⊥) → a < 4 → Put c v a 0 S S
put_short {a} {c} {v} {S} n l = record { how = λ X h. rw (emitted c v X n) (record { how = short_as a S X l h.how }); long = refl; room = omega arith }

written : (S X : List ℕ) (b c v : ℕ) → suc (suc b) ≤ length S → drop (suc (suc b)) S ≡ X → drop b (set (set S b c) (b + 1) v) ≡ c ∷ v ∷ X
written S X b c v l e =
    let m : length (set (set S b c) (b + 1) v) ≡ length S = length-set (set S b c) (b + 1) v ∙ length-set S b c in
    let two : b + 2 ≤ length (set (set S b c) (b + 1) v) = omega arith in
    let n : length (set S b c) ≡ length S = length-set S b c in
    let x : get_or (set (set S b c) (b + 1) v) b 0 ≡ c = get_or-set_other (set S b c) (b + 1) b v 0 (omega arith) ∙ get_or-set_same S b c 0 (omega arith) in
    let y : get_or (set (set S b c) (b + 1) v) (b + 1) 0 ≡ v = get_or-set_same (set S b c) (b + 1) v 0 (omega arith) in
    let z : drop (b + 2) (set (set S b c) (b + 1) v) ≡ X = drop-set-lt (b + 2) (set S b c) (b + 1) v (omega arith) ∙ drop-set-lt (b + 2) S b c (omega arith) ∙ rw (add-two b) e in
    drop_two (set (set S b c) (b + 1) v) b two ∙ rw (x, y, z)

full_as : (a c v : ℕ) (S X : List ℕ) → 4 ≤ a → Holds a S X → Holds (a - 2) (set (set S (a - 4) c) (a - 3) v) (c ∷ v ∷ X)
full_as zero c v S X l h = absurd (omega arith)
full_as (suc zero) c v S X l h = absurd (omega arith)
full_as (suc (suc zero)) c v S X l h = absurd (omega arith)
full_as (suc (suc (suc zero))) c v S X l h = absurd (omega arith)
full_as (suc (suc (suc (suc b)))) c v S X l h =
    let e2 : suc (suc (suc (suc b))) - 2 ≡ suc (suc b) = omega arith in
    let e4 : suc (suc (suc (suc b))) - 4 ≡ b = omega arith in
    let e3 : suc (suc (suc (suc b))) - 3 ≡ b + 1 = omega arith in
    let m : length (set (set S b c) (b + 1) v) ≡ length S = length-set (set S b c) (b + 1) v ∙ length-set S b c in
    let i : suc (suc b) ≤ length S = h.how.0 in
    rw (e2, e4, e3) (record { how = (omega arith, written S X b c v i h.how.1) })

pub put_full : {a c v : ℕ} {S : List ℕ} → (c ≡ NoToken → ⊥) → 4 ≤ a → a ≤ length S + 2 → Put c v a (a - 2) S (set (set S (a - 4) c) (a - 3) v)
put_full {a} {c} {v} {S} n l b = record { how = λ X h. rw (emitted c v X n) (full_as a c v S X l h); long = length-set (set S (a - 4) c) (a - 3) v ∙ length-set S (a - 4) c; room = omega arith }

-- ---------------------------------------------------------------- the tokens behind a node's children and before them
pub closed_puts : {kind value form a b e held : ℕ} {S S₁ S₂ : List ℕ} → held ≡ carried kind value (last_token kind)
    → Put (last_token kind) held a b S S₁ → Put (behind_token kind form) 0 b e S₁ S₂ → Closed kind value form a e S S₂
unfolding closed
closed_puts h p q =
    let m = p.long in
    let n = q.long in
    let r = q.room in
    record { how = λ X x. rw (← h) (q.how _ (p.how X x)); long = n ∙ m; room = omega arith }

pub opened_puts : {kind value form a b e i held held₂ : ℕ} {S S₁ S₂ S₃ : List ℕ} → held₂ ≡ carried kind value (second_token kind value)
    → held ≡ carried kind value (first_token kind value form) → Put (third_token kind) 0 a b S S₁ → Put (second_token kind value) held₂ b e S₁ S₂ → Put (first_token kind value form) held e i S₂ S₃ → Opened kind value form a i S S₃
unfolding opened
opened_puts g h p q r =
    let m = p.long in
    let n = q.long in
    let o = r.long in
    let w = r.room in
    record { how = λ X x. rw (← h, ← g) (r.how _ (q.how _ (p.how X x))); long = o ∙ n ∙ m; room = omega arith }
