-- The relation by which readings are shown to be local, and its laws for each way to put readings together. Two runs of words are alike up to a place; there a bad record
-- stands in the first, and anything in the second. A reading of the first meets the record and stops with 60, or both readings come to the same and leave the same
-- tokens before the place. Where the first meets the record, the second leaves nothing before the place, unless it stops: no reading goes back behind a token that it
-- looked at. Assumes nothing.
use Rattle.std.specs.Prelude.{◌≡◌, Bool, false, ℕ, ◌+◌, length}
use Rattle.std.proofs.Common.{ap, arith}
use Rattle.std.proofs.Math.Bool.{true}
use mathlib.Core.List.{List, [], ◌∷◌}
use Rattle.token.specs.Look.{seen_word}
use Rattle.token.specs.declared.Token.{Token}
use Rattle.std.proofs.Common.{Result, Ok, Err}
use Rattle.token.specs.declared.Unread.{Unread}
use Rattle.token.specs.declared.Unread.TheVariants.{LexerError, Nothing, Bad}
use Rattle.grammar.specs.Reading.Limit.{malformed}
use Rattle.grammar.specs.Reading.Result.{Error, Res, ok, bad, fail, stop, unclean, either, then, ifb, push, pop}
use Rattle.grammar.specs.Reading.Look.{looked, look}
use Rattle.grammar.specs.Reading.Next.{front}
use Rattle.grammar.specs.Reading.Looked.{BadRecord, words_of}
use Rattle.grammar.proofs.Laws.Facts.{if_each}
use Rattle.grammar.proofs.Laws.Keep.{Keep, k_ok, k_bad, k_fail, k_stop, k_or, k_on, k_unclean, here}
use Rattle.grammar.proofs.Laws.Progress.{look_keeps}
use Rattle.grammar.proofs.Laws.Taken.{Left, left_step}
use Rattle.grammar.proofs.Laws.Count.{Enough}

-- nothing that stands before X is left
abbrev pub Reached : {A : Type 0} → List ℕ → Res A → Type 0
Reached X x = Keep (Left X) (λ e. Left X) x

-- the bad record of the first run, and the words that the second has in its place
module _ (b : BadRecord) (X : List ℕ) where
  -- true: alike up to the place. false: the second is behind the place
  pub data Alike : Bool → List ℕ → List ℕ → Type 0 where
    a_place : Alike true (words_of b) X
    a_more : {w v : ℕ} {r s : List ℕ} → Alike true r s → Alike true (w ∷ v ∷ r) (w ∷ v ∷ s)
    a_behind : {r s : List ℕ} → Left X s → Alike false r s

  -- true: both come to the same; or the first meets the record, and the second leaves nothing before the place. false: the second leaves nothing before the place
  pub data Local {A : Type 0} : Bool → Res A → Res A → Type 0 where
    l_ok : {a : A} {r s : List ℕ} → Alike true r s → Local true (ok a r) (ok a s)
    l_bad : {a : A} {q : List Error} {r s : List ℕ} → Alike true r s → Local true (bad a q r) (bad a q s)
    l_fail : {e : Error} {q : List Error} {r s : List ℕ} → Alike true r s → Local true (fail e q r) (fail e q s)
    l_stop : {n : ℕ} → Local true (stop n) (stop n)
    l_met : {x : Res A} → Reached X x → Local true (stop malformed) x
    l_behind : {d x : Res A} → Reached X x → Local false d x

  -- of a reading, whatever waits
  abbrev pub Locally : {A : Type 0} → (List Error → List ℕ → Res A) → Type 0
  Locally m = (f : Bool) (q : List Error) (ts us : List ℕ) → Alike f ts us → Local f (m q ts) (m q us)

  -- of a loop that counts the words that are left
  abbrev pub Counted : {A B : Type 0} → (ℕ → A → List Error → List ℕ → Res B) → Type 0
  Counted {A} m = (a : A) (f : Bool) (q : List Error) (ts us : List ℕ) → Alike f ts us → Local f (m (length ts) a q ts) (m (length us) a q us)

  -- of two ways to go on, whatever the flag
  abbrev pub On : {A B : Type 0} → (A → List Error → List ℕ → Res B) → (A → List Error → List ℕ → Res B) → Type 0
  On {A} go go' = (f : Bool) (a : A) (q : List Error) (r s : List ℕ) → Alike f r s → Local f (go a q r) (go' a q s)

  -- where the flag is known
  abbrev pub OnAt : {A B : Type 0} → Bool → (A → List Error → List ℕ → Res B) → (A → List Error → List ℕ → Res B) → Type 0
  OnAt {A} f go go' = (a : A) (q : List Error) (r s : List ℕ) → Alike f r s → Local f (go a q r) (go' a q s)

  -- behind a look at the words ts and us: they may go back to these, and to no others
  abbrev pub OnLook : {A B : Type 0} → List ℕ → List ℕ → (A → List Error → List ℕ → Res B) → (A → List Error → List ℕ → Res B) → Type 0
  OnLook {A} ts us go go' = (f : Bool) (a : A) (q : List Error) (r s : List ℕ) → Alike f ts us → Alike f r s → Local f (go a q r) (go' a q s)

-- a look at the bad record, and one behind the place

look_met : (b : BadRecord) (q : List Error) → look q (words_of b) ≡ stop malformed
unfolding look looked
look_met b q = ap (looked q b.behind) b.is

look_reaches : (X : List ℕ) (q : List Error) (s : List ℕ) → Left X s → Reached X (look q s)
look_reaches X q s i = look_keeps (Left X) (left_step X) q s (here i)

module _ {b : BadRecord} {X : List ℕ} where
  reached : {A : Type 0} {d x : Res A} → Local b X false d x → Reached X x
  reached (l_behind k) = k

  -- each way to put readings together keeps this

  pub at_ok : {f : Bool} {A : Type 0} {a : A} {r s : List ℕ} → Alike b X f r s → Local b X f (ok a r) (ok a s)
  at_ok a_place = l_ok a_place
  at_ok (a_more t) = l_ok (a_more t)
  at_ok (a_behind i) = l_behind (k_ok i)

  pub at_bad : {f : Bool} {A : Type 0} {a : A} {q : List Error} {r s : List ℕ} → Alike b X f r s → Local b X f (bad a q r) (bad a q s)
  at_bad a_place = l_bad a_place
  at_bad (a_more t) = l_bad (a_more t)
  at_bad (a_behind i) = l_behind (k_bad i)

  pub at_fail : {f : Bool} {A : Type 0} {e : Error} {q : List Error} {r s : List ℕ} → Alike b X f r s → Local b X {A = A} f (fail e q r) (fail e q s)
  at_fail a_place = l_fail a_place
  at_fail (a_more t) = l_fail (a_more t)
  at_fail (a_behind i) = l_behind (k_fail i)

  pub at_stop : (f : Bool) {A : Type 0} {n : ℕ} → Local b X {A = A} f (stop n) (stop n)
  at_stop true = l_stop
  at_stop false = l_behind k_stop

  at_unclean : {f : Bool} {A : Type 0} (q : List Error) {d e : Res A} → Local b X f d e → Local b X f (unclean q d) (unclean q e)
  unfolding unclean
  at_unclean q (l_ok t) = l_bad t
  at_unclean q (l_bad t) = l_bad t
  at_unclean q (l_fail t) = l_fail t
  at_unclean q l_stop = l_stop
  at_unclean q (l_met k) = l_met (k_unclean q k)
  at_unclean q (l_behind k) = l_behind (k_unclean q k)

  on_behind : {A B : Type 0} {go go' : A → List Error → List ℕ → Res B} → On b X go go' → (a : A) (q : List Error) (r : List ℕ) → Left X r → Reached X (go' a q r)
  on_behind h a q r i = reached (h false a q r r (a_behind i))

  pub at_then : {f : Bool} {A B : Type 0} (q : List Error) {d e : Res A} {go go' : A → List Error → List ℕ → Res B} → Local b X f d e → On b X go go' → Local b X f (then q d go) (then q e go')
  unfolding then
  at_then q (l_ok t) h = h true _ _ _ _ t
  at_then q (l_bad t) h = at_unclean _ (h true _ _ _ _ t)
  at_then q (l_fail t) h = l_fail t
  at_then q l_stop h = l_stop
  at_then q (l_met k) h = l_met (k_on q k (on_behind h))
  at_then q (l_behind k) h = l_behind (k_on q k (on_behind h))

  pub at_either : {f : Bool} {A B : Type 0} (q : List Error) {d e : Res A} {go go' : A → List Error → List ℕ → Res B} {or or' : Error → List Error → List ℕ → Res B}
      → Local b X f d e → On b X go go' → On b X or or' → Local b X f (either q d go or) (either q e go' or')
  unfolding either
  at_either q (l_ok t) h k = h true _ _ _ _ t
  at_either q (l_bad t) h k = at_unclean _ (h true _ _ _ _ t)
  at_either q (l_fail t) h k = at_unclean _ (k true _ _ _ _ t)
  at_either q l_stop h k = l_stop
  at_either q (l_met x) h k = l_met (k_or q x (on_behind h) (on_behind k))
  at_either q (l_behind x) h k = l_behind (k_or q x (on_behind h) (on_behind k))

  pub at_if : {f : Bool} {A : Type 0} (c : Bool) {x y x' y' : Unit {0} → Res A} → ((u : Unit {0}) → Local b X f (x u) (x' u)) → ((u : Unit {0}) → Local b X f (y u) (y' u)) → Local b X f (ifb c x y) (ifb c x' y')
  at_if {f} c h k = if_each (Local b X f) c h k

  pub at_push : {f : Bool} {A : Type 0} (e : Error) (q : List Error) {k k' : List Error → Res A} → ((q : List Error) → Local b X f (k q) (k' q)) → Local b X f (push e q k) (push e q k')
  unfolding push
  at_push e q h = at_if _ (λ u. at_stop _) (λ u. at_unclean _ (h _))

  pub at_front : {f : Bool} {A : Type 0} (q : List Error) {k k' : Error → List Error → Res A} → ((e : Error) (q : List Error) → Local b X f (k e q) (k' e q)) → Local b X f (front q k) (front q k')
  unfolding front
  at_front [] h = at_stop _
  at_front (e ∷ q) h = h e q

  pub at_pop : {f : Bool} {A : Type 0} (q : List Error) {r s : List ℕ} → Alike b X f r s → Local b X {A = A} f (pop q r) (pop q s)
  unfolding pop
  at_pop [] t = at_fail t
  at_pop (e ∷ q) t = at_fail t

  -- a loop at equal counts is enough: more count changes nothing
  pub at_count : {A B : Type 0} (m : ℕ → A → List Error → List ℕ → Res B) → Enough m → ((n : ℕ) (a : A) → Locally b X (m n a)) → Counted b X m
  at_count m same h a f q ts us t =
      let n : ℕ = length ts + length us in
      rw (same (length ts) n a q ts (omega arith) (omega arith), same (length us) n a q us (omega arith) (omega arith)) (h n a f q ts us t)

  -- looking at a token

  on_look_behind : {A B : Type 0} {ts us : List ℕ} {go go' : A → List Error → List ℕ → Res B} → OnLook b X ts us go go' → Left X us → (a : A) (q : List Error) (r : List ℕ) → Left X r → Reached X (go' a q r)
  on_look_behind h l a q r i = reached (h false a q r r (a_behind l) (a_behind i))

  looked_then : {B : Type 0} (q : List Error) {r s : List ℕ} (x : (Result Token Unread)) {go go' : Token → List Error → List ℕ → Res B} → Alike b X true r s → OnAt b X true go go'
      → Local b X true (then q (looked q r x) go) (then q (looked q s x) go')
  unfolding looked then
  looked_then q (Ok tok) t h = h tok q _ _ t
  looked_then q (Err LexerError) t h = l_fail t
  looked_then q (Err Nothing) t h = l_fail t
  looked_then q (Err Bad) t h = l_stop

  looked_either : {B : Type 0} (q : List Error) {r s : List ℕ} (x : (Result Token Unread)) {go go' : Token → List Error → List ℕ → Res B} {or or' : Error → List Error → List ℕ → Res B}
      → Alike b X true r s → OnAt b X true go go' → OnAt b X true or or' → Local b X true (either q (looked q r x) go or) (either q (looked q s x) go' or')
  unfolding looked either
  looked_either q (Ok tok) t h k = h tok q _ _ t
  looked_either q (Err LexerError) t h k = at_unclean _ (k _ q _ _ t)
  looked_either q (Err Nothing) t h k = at_unclean _ (k _ q _ _ t)
  looked_either q (Err Bad) t h k = l_stop

  pub look_then : {f : Bool} {B : Type 0} (q : List Error) {ts us : List ℕ} {go go' : Token → List Error → List ℕ → Res B} → Alike b X f ts us → OnLook b X ts us go go'
      → Local b X f (then q (look q ts) go) (then q (look q us) go')
  unfolding look then
  look_then q a_place h = rw (look_met b q) (l_met (k_on q (look_reaches X q X (omega arith)) (on_look_behind h (omega arith))))
  look_then q (a_more {w = w} {v = v} t) h = looked_then q (seen_word w v) t λ tok q r s. h true tok q r s (a_more t)
  look_then q {us = us} (a_behind i) h = l_behind (k_on q (look_reaches X q us i) (on_look_behind h i))

  pub look_either : {f : Bool} {B : Type 0} (q : List Error) {ts us : List ℕ} {go go' : Token → List Error → List ℕ → Res B} {or or' : Error → List Error → List ℕ → Res B}
      → Alike b X f ts us → OnLook b X ts us go go' → OnLook b X ts us or or' → Local b X f (either q (look q ts) go or) (either q (look q us) go' or')
  unfolding look either
  look_either q a_place h k = rw (look_met b q) (l_met (k_or q (look_reaches X q X (omega arith)) (on_look_behind h (omega arith)) (on_look_behind k (omega arith))))
  look_either q (a_more {w = w} {v = v} t) h k = looked_either q (seen_word w v) t (λ tok q r s. h true tok q r s (a_more t)) (λ e q r s. k true e q r s (a_more t))
  look_either q {us = us} (a_behind i) h k = l_behind (k_or q (look_reaches X q us i) (on_look_behind h i) (on_look_behind k i))

-- a reading behind a look may go back to the token just looked at, so the laws of `look` come first
pub ruleset local = (at_ok, at_bad, at_fail, at_stop, look_then, look_either, at_then, at_either, at_if, at_push, at_front, at_pop)
