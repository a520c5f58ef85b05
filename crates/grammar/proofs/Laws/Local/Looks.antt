-- What `looks` says of a local reading. It comes to the same over any two runs of words that are alike in the tokens that it looks at, and looks at the same: `kept`.
-- It goes back behind no token but the last that it looked at, and takes none that it did not look at: `next_ends`. It looks at a token exactly if it would meet a bad record
-- there: `looks_exact`. Assumes nothing.
use Rattle.std.specs.Prelude.{◌≡◌, false, ℕ, zero, suc, ◌+◌, ◌*◌, ◌≤◌, ◌<◌, ltb, length, drop, get_or}
use Rattle.std.proofs.Math.Path.{refl, ap}
use Rattle.std.proofs.Common.{sym, subst, ◌∙◌, arith, eqb-true, lt-ltb}
use Rattle.std.proofs.Math.Bool.{true}
use mathlib.Core.List.{List, [], ◌∷◌, ◌++◌}
use Rattle.std.proofs.Math.Dec.{leb-suc-zero, leb-suc-suc}
use Rattle.token.specs.Look.{seen_word}
use Rattle.std.proofs.Common.{Result, Ok, Err}
use Rattle.token.specs.declared.Unread.{Unread}
use Rattle.token.specs.declared.Token.{Token}
use Rattle.token.specs.declared.Unread.TheVariants.{LexerError, Nothing, Bad}
use Rattle.grammar.specs.Reading.Limit.{malformed}
use Rattle.grammar.specs.Reading.Result.{Error, Res, stop, either, then, ifb}
use Rattle.grammar.specs.Reading.Look.{looked, look}
use Rattle.grammar.specs.Reading.Next.{start, next}
use Rattle.grammar.specs.Reading.Looked.{BadRecord, words_of, bad_record, meets, looks_first, is_bad, looks, WellFormed, no_token, a_token, Rests, r_end, r_more, Same, same_ok, same_bad, same_fail, same_stop}
use Rattle.grammar.proofs.Laws.Facts.{clash, by_test}
use Rattle.grammar.proofs.Laws.Keep.{Keep, k_ok, k_bad, k_fail, k_stop, k_weaken, k_all, k_both}
use Rattle.grammar.proofs.Laws.Local.Base.{Reached, Alike, a_place, a_more, Local, l_ok, l_bad, l_fail, l_stop, l_met}
use Rattle.grammar.proofs.Laws.Local.Nonterminals.{next_local}

-- the words h are those of a tokens
pub data Whole : ℕ → List ℕ → Type 0 where
  w_none : Whole 0 []
  w_more : {a w v : ℕ} {h : List ℕ} → Whole a h → Whole (suc a) (w ∷ v ∷ h)

pub whole : (a : ℕ) (h : List ℕ) → length h ≡ 2 * a → Whole a h
whole zero [] e = w_none
whole zero (w ∷ h) e = absurd (omega arith)
whole (suc a) [] e = absurd (omega arith)
whole (suc a) (w ∷ []) e = absurd (omega arith)
whole (suc a) (w ∷ (v ∷ h)) e = w_more (whole a h (omega arith))

-- a reading of which the relation holds, whatever the bad record and the words in its place
abbrev pub IsLocal : {A : Type 0} → (List ℕ → Res A) → Type 0
IsLocal m = (b : BadRecord) (X ts us : List ℕ) → Alike b X true ts us → Local b X true (m ts) (m us)

pub next_is_local : (d : ℕ) (q : List Error) → IsLocal (next d q)
next_is_local d q b X = next_local b X d true q

-- it looks at one token at least
next_meets : (d : ℕ) (q : List Error) → meets (next d q (words_of bad_record)) ≡ true
unfolding next start look looked then either meets
next_meets d q = refl

pub local_behind : {A : Type 0} {m : List ℕ → Res A} (w v : ℕ) → IsLocal m → IsLocal (λ r. m (w ∷ v ∷ r))
local_behind w v h b X ts us t = h b X (w ∷ v ∷ ts) (w ∷ v ∷ us) (a_more t)

-- two readings that each come to the same as a third, which meets no bad record

long : {b : BadRecord} {X r s : List ℕ} → Alike b X true r s → suc (suc (length b.behind)) ≤ length r
long a_place = omega arith
long (a_more t) = omega (arith, long t)

rests_same : {b : BadRecord} {Z X r r' s u : List ℕ} → Alike b Z true r s → Alike b X true r' u → r ≡ r' → Rests Z X s u
rests_same a_place a_place e = r_end
rests_same a_place (a_more u) e = absurd (omega (arith, ap length e, long u))
rests_same (a_more t) a_place e = absurd (omega (arith, ap length e, long t))
rests_same {Z = Z} {X = X} (a_more {w = w} {v = v} {s = s} t) (a_more {w = w'} {v = v'} {s = s'} u) e =
    let m : w ≡ w' = ap (λ (r : List ℕ). get_or r 0 0) e in
    let n : v ≡ v' = ap (λ (r : List ℕ). get_or r 1 0) e in
    subst (λ (x : ℕ). Rests Z X (w ∷ v ∷ s) (x ∷ v' ∷ s')) m (subst (λ (y : ℕ). Rests Z X (w ∷ v ∷ s) (w ∷ y ∷ s')) n (r_more (rests_same t u (ap (drop 2) e))))

rests : {b : BadRecord} {Z X r s u : List ℕ} → Alike b Z true r s → Alike b X true r u → Rests Z X s u
rests t u = rests_same t u refl

agree : {b : BadRecord} {Z X : List ℕ} {A : Type 0} {x y z : Res A} → Local b Z true x y → Local b X true x z → meets x ≡ false → Same Z X y z
unfolding meets
agree (l_ok t) (l_ok u) e = same_ok (rests t u)
agree (l_bad t) (l_bad u) e = same_bad (rests t u)
agree (l_fail t) (l_fail u) e = same_fail (rests t u)
agree l_stop l_stop e = same_stop
agree l_stop (l_met k) e = clash refl e
agree (l_met k) l_stop e = clash refl e
agree (l_met k) (l_met j) e = clash refl e

alike_in : {a : ℕ} {h : List ℕ} (b : BadRecord) (X : List ℕ) → Whole a h → Alike b X true (h ++ words_of b) (h ++ X)
alike_in b X w_none = a_place
alike_in b X (w_more e) = a_more (alike_in b X e)

-- where a bad record behind h is not met, the reading comes to the same whatever stands behind h
pub unmet_behind : {A : Type 0} {m : List ℕ → Res A} {a : ℕ} {h : List ℕ} → IsLocal m → Whole a h → (b : BadRecord) (X : List ℕ) → meets (m (h ++ words_of b)) ≡ false
    → Same (words_of b) X (m (h ++ words_of b)) (m (h ++ X))
unmet_behind m e b X = agree (m b (words_of b) _ _ (alike_in b (words_of b) e)) (m b X _ _ (alike_in b X e))

module _ {A : Type 0} {m : List ℕ → Res A} (l : IsLocal m) where
  pub unmet : (Z X : List ℕ) → looks_first m ≡ false → Same Z X (m Z) (m X)
  unmet Z X = agree (l bad_record Z _ Z a_place) (l bad_record X _ X a_place)

  reaches : (X : List ℕ) → looks_first m ≡ true → Reached X (m X)
  unfolding meets
  reaches X = go (l bad_record X _ X a_place)
    where
      go : {x y : Res A} → Local bad_record X true x y → meets x ≡ true → Reached X y
      go (l_ok t) e = clash e refl
      go (l_bad t) e = clash e refl
      go (l_fail t) e = clash e refl
      go l_stop e = k_stop
      go (l_met k) e = k

  -- a reading that meets one bad record meets any that stands there
  pub stops : (w v : ℕ) (Z : List ℕ) → seen_word w v ≡ (Err Bad) → looks_first m ≡ true → m (w ∷ v ∷ Z) ≡ stop malformed
  unfolding meets
  stops w v Z e = go (l (record { word = w; value = v; behind = Z; is = e }) (words_of bad_record) _ _ a_place)
    where
      go : {b : BadRecord} {X : List ℕ} {x y : Res A} → Local b X true x y → meets y ≡ true → x ≡ stop malformed
      go (l_ok t) e = clash e refl
      go (l_bad t) e = clash e refl
      go (l_fail t) e = clash e refl
      go (l_stop {n = n}) e = ap stop (eqb-true n malformed e)
      go (l_met k) e = refl

-- `looks` by its tests: the reading looks at no token; it looks for one behind the last; at a bad record; at a token, and then at n behind it
pub data LooksAt {A : Type 0} : (List ℕ → Res A) → List ℕ → ℕ → Type 0 where
  looks_none : {m : List ℕ → Res A} {ts : List ℕ} → looks_first m ≡ false → LooksAt m ts 0
  looks_behind : {m : List ℕ → Res A} {ts : List ℕ} → looks_first m ≡ true → length ts < 2 → LooksAt m ts 1
  looks_bad : {m : List ℕ → Res A} {w v : ℕ} {ts : List ℕ} → looks_first m ≡ true → seen_word w v ≡ (Err Bad) → LooksAt m (w ∷ v ∷ ts) 1
  looks_token : {m : List ℕ → Res A} {w v n : ℕ} {ts : List ℕ} → looks_first m ≡ true → is_bad (seen_word w v) ≡ false → LooksAt (λ r. m (w ∷ v ∷ r)) ts n → LooksAt m (w ∷ v ∷ ts) (suc n)

bad_is : (x : (Result Token Unread)) → is_bad x ≡ true → x ≡ (Err Bad)
unfolding is_bad
bad_is (Ok tok) e = clash e refl
bad_is (Err LexerError) e = clash e refl
bad_is (Err Nothing) e = clash e refl
bad_is (Err Bad) e = refl

pub looks_at : {A : Type 0} (m : List ℕ → Res A) (ts : List ℕ) → LooksAt m ts (looks m ts)
unfolding looks ifb
looks_at m [] = by_test (looks_first m) (λ t. rw t (looks_behind {ts = []} t (omega arith))) (λ t. rw t (looks_none t))
looks_at m (w ∷ []) = by_test (looks_first m) (λ t. rw t (looks_behind {ts = w ∷ []} t (omega arith))) (λ t. rw t (looks_none t))
looks_at m (w ∷ (v ∷ ts)) =
    by_test (looks_first m)
    (λ t. by_test (is_bad (seen_word w v)) (λ s. rw (t, s) (looks_bad t (bad_is (seen_word w v) s))) (λ s. rw (t, s) (looks_token t s (looks_at (λ r. m (w ∷ v ∷ r)) ts))))
    (λ t. rw t (looks_none t))

looks_is : {A : Type 0} {m : List ℕ → Res A} {ts : List ℕ} {n : ℕ} → LooksAt m ts n → looks m ts ≡ n
unfolding looks ifb is_bad
looks_is {ts = []} (looks_none t) = rw t
looks_is {ts = w ∷ []} (looks_none t) = rw t
looks_is {ts = w ∷ (v ∷ ts)} (looks_none t) = rw t
looks_is {ts = []} (looks_behind t l) = rw t
looks_is {ts = w ∷ []} (looks_behind t l) = rw t
looks_is {ts = w ∷ (v ∷ ts)} (looks_behind t l) = absurd (omega arith)
looks_is (looks_bad t s) = rw (t, s)
looks_is (looks_token t s x) = rw (t, s, looks_is x)

-- whatever follows the tokens h

rests_in : {a : ℕ} {h : List ℕ} → Whole a h → (Z X : List ℕ) → Rests Z X (h ++ Z) (h ++ X)
rests_in w_none Z X = r_end
rests_in (w_more e) Z X = r_more (rests_in e Z X)

rests_on : {a : ℕ} {h Z X r s : List ℕ} → Whole a h → Rests (h ++ Z) (h ++ X) r s → Rests Z X r s
rests_on {Z = Z} {X = X} e r_end = rests_in e Z X
rests_on e (r_more k) = r_more (rests_on e k)

same_on : {A : Type 0} {a : ℕ} {h Z X : List ℕ} {x y : Res A} → Whole a h → Same (h ++ Z) (h ++ X) x y → Same Z X x y
same_on e (same_ok k) = same_ok (rests_on e k)
same_on e (same_bad k) = same_bad (rests_on e k)
same_on e (same_fail k) = same_fail (rests_on e k)
same_on e same_stop = same_stop

kept_looks : {A : Type 0} {m : List ℕ → Res A} {a n : ℕ} {h : List ℕ} (Z X : List ℕ) → IsLocal m → Whole a h → LooksAt m (h ++ Z) n → n ≤ a → Same Z X (m (h ++ Z)) (m (h ++ X)) × LooksAt m (h ++ X) n
kept_looks Z X l w_none (looks_none t) k = (unmet l Z X t, looks_none t)
kept_looks Z X l w_none (looks_behind t s) k = absurd (omega arith)
kept_looks Z X l w_none (looks_bad t s) k = absurd (omega arith)
kept_looks Z X l w_none (looks_token t s x) k = absurd (omega arith)
kept_looks Z X l (w_more {w = w} {v = v} {h = h} e) (looks_none t) k = (same_on (w_more e) (unmet l (w ∷ v ∷ (h ++ Z)) (w ∷ v ∷ (h ++ X)) t), looks_none t)
kept_looks Z X l (w_more e) (looks_behind t s) k = absurd (omega arith)
kept_looks Z X l (w_more {w = w} {v = v} {h = h} e) (looks_bad t s) k = (rw (stops l w v (h ++ Z) s t, stops l w v (h ++ X) s t) same_stop, looks_bad t s)
kept_looks Z X l (w_more {w = w} {v = v} e) (looks_token t s x) k = let (o, y) = kept_looks Z X (local_behind w v l) e x (omega arith) in (o, looks_token t s y)

pub kept : {A : Type 0} {m : List ℕ → Res A} {a : ℕ} {h : List ℕ} (Z X : List ℕ) → IsLocal m → Whole a h → looks m (h ++ Z) ≤ a
    → Same Z X (m (h ++ Z)) (m (h ++ X)) × (looks m (h ++ X) ≡ looks m (h ++ Z))
kept {m = m} {h = h} Z X l e k = let (o, x) = kept_looks Z X l e (looks_at m (h ++ Z)) k in (o, looks_is x)

-- where a reading ends

met : {A : Type 0} {m : List ℕ → Res A} {ts : List ℕ} {n : ℕ} → LooksAt m ts (suc n) → looks_first m ≡ true
met (looks_behind t s) = t
met (looks_bad t s) = t
met (looks_token t s x) = t

-- it goes back behind no token but the last that it looked at, unless it stops
goes_back : {A : Type 0} {m : List ℕ → Res A} {ts : List ℕ} (n : ℕ) → IsLocal m → looks_first m ≡ true → LooksAt m ts n
    → Keep (λ r. length r + 2 * n ≤ length ts + 2) (λ e r. length r + 2 * n ≤ length ts + 2) (m ts)
goes_back zero l e (looks_none t) = clash e t
goes_back {ts = ts} (suc zero) l e x = k_weaken (λ a r i. omega arith) (λ e r i. omega arith) (reaches l ts e)
goes_back (suc (suc n)) l e (looks_token {w = w} {v = v} t s x) = k_weaken (λ a r i. omega arith) (λ e r i. omega arith) (goes_back (suc n) (local_behind w v l) (met x) x)

pub rests_long : {Z X r s : List ℕ} → Rests Z X r s → length X ≤ length s
rests_long r_end = omega arith
rests_long (r_more k) = omega (arith, rests_long k)

same_long : {A : Type 0} {Z X : List ℕ} {x y : Res A} → Same Z X x y → Keep (λ r. length X ≤ length r) (λ e r. length X ≤ length r) y
same_long (same_ok k) = k_ok (rests_long k)
same_long (same_bad k) = k_bad (rests_long k)
same_long (same_fail k) = k_fail (rests_long k)
same_long same_stop = k_stop

-- it takes no token that it did not look at
takes_looked : {A : Type 0} {m : List ℕ → Res A} {ts : List ℕ} {n : ℕ} → IsLocal m → LooksAt m ts n → Keep (λ r. length ts ≤ length r + 2 * n) (λ e r. length ts ≤ length r + 2 * n) (m ts)
takes_looked {ts = ts} l (looks_none t) = k_weaken (λ a r i. omega arith) (λ e r i. omega arith) (same_long (unmet l ts ts t))
takes_looked l (looks_behind t s) = k_all (λ a r. omega arith) (λ e r. omega arith) _
takes_looked l (looks_bad {w = w} {v = v} {ts = ts} t s) = rw (stops l w v ts s t) k_stop
takes_looked l (looks_token {w = w} {v = v} t s x) = k_weaken (λ a r i. omega arith) (λ e r i. omega arith) (takes_looked (local_behind w v l) x)

-- both, of the words r that `next` leaves of ts where it looks at n
abbrev pub NearLooks : ℕ → List ℕ → List ℕ → Type 0
NearLooks n ts r = (length r + 2 * n ≤ length ts + 2) × (length ts ≤ length r + 2 * n)

pub next_ends : (d : ℕ) (q : List Error) (ts : List ℕ) → Keep (NearLooks (looks (next d q) ts) ts) (λ e. NearLooks (looks (next d q) ts) ts) (next d q ts)
next_ends d q ts = let x = looks_at (next d q) ts in k_both (goes_back _ (next_is_local d q) (next_meets d q) x) (takes_looked (next_is_local d q) x)

-- which tokens it looks at

same_meets : {A : Type 0} {Z X : List ℕ} {x y : Res A} → Same Z X x y → meets x ≡ meets y
unfolding meets
same_meets (same_ok k) = refl
same_meets (same_bad k) = refl
same_meets (same_fail k) = refl
same_meets same_stop = refl

pub looks_exact : {A : Type 0} {m : List ℕ → Res A} {a n : ℕ} {h : List ℕ} (Z : List ℕ) → IsLocal m → WellFormed a h → LooksAt m (h ++ Z) n → meets (m (h ++ words_of bad_record)) ≡ ltb a n
unfolding is_bad
looks_exact Z l no_token (looks_none t) = t
looks_exact Z l no_token (looks_behind t s) = t
looks_exact Z l no_token (looks_bad t s) = t
looks_exact Z l no_token (looks_token {n = n} t s x) = t ∙ sym (lt-ltb 0 (suc n) (omega arith))
looks_exact Z l (a_token {a = a} {w = w} {v = v} {h = h} e f) (looks_none t) =
    sym (same_meets (unmet l (words_of bad_record) (w ∷ v ∷ (h ++ words_of bad_record)) t)) ∙ t ∙ sym (leb-suc-zero (suc a))
looks_exact Z l (a_token e f) (looks_behind t s) = absurd (omega arith)
looks_exact Z l (a_token e f) (looks_bad t s) = clash (ap is_bad s) e
looks_exact Z l (a_token {a = a} {w = w} {v = v} e f) (looks_token {n = n} t s x) = looks_exact Z (local_behind w v l) f x ∙ sym (leb-suc-suc (suc a) n)
