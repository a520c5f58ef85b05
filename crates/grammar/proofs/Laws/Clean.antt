-- Every statement of a clean reading is valid. Assumes nothing.
use Rattle.std.specs.Prelude.{◌≡◌, refl, Bool, true, false, cond, List, [], ◌∷◌, ℕ, zero, suc, ◌%◌, ◌≤◌, eqb, length, Option, Some, None, option_and_then}
use Rattle.std.proofs.Common.{ap, ◌∙◌, subst, arith, eqb-true}
use Rattle.token.specs.Kind
use Rattle.token.specs.declared.Token.{Token}
use Rattle.tree.specs.Tree.{Tree, Forest, none, more}
use Rattle.grammar.specs.Reading.Result.{Error, Res, ok, bad, fail, stop, either, ifb, unclean}
use Rattle.grammar.specs.Reading.Depth.{at_depth}
use Rattle.grammar.specs.Reading.Next.{start, next}
use Rattle.grammar.specs.Canonical.Valid.{stmt, Valid, Valids, v_none, v_more}
use Rattle.grammar.specs.Canonical.Writing.{clean_then, clean_from, clean_reading}
use Rattle.grammar.proofs.Laws.Post.{Post, p_ok, p_bad, p_fail, p_stop, post_then, post_either}
use Rattle.grammar.proofs.Laws.Top.{next_end}
use Rattle.grammar.proofs.Laws.Keep.{Yields, k_ok, k_bad, k_fail, k_stop}
use Rattle.grammar.proofs.Laws.Seen.{Saw, look_sees, isnt, NotClose}
use Rattle.grammar.proofs.Laws.Sound.Stmt.{stmt_sound, depth_sound}

-- what `)` begins is no end, and nothing is passed over before it
data StartOk (ts : List ℕ) : Res (Unit {0}) → Type 0 where
  started : {u : Unit {0}} {r : List ℕ} → (NotClose r → NotClose ts) → StartOk ts (ok u r)
  not_clean : {u : Unit {0}} {q : List Error} {r : List ℕ} → StartOk ts (bad u q r)
  not_started : {e : Error} {q : List Error} {r : List ℕ} → NotClose ts → StartOk ts (fail e q r)
  no_start : {n : ℕ} → StartOk ts (stop n)

anyway : {ts : List ℕ} (d : Res (Unit {0})) → NotClose ts → StartOk ts d
anyway (ok u r) h = started (λ _. h)
anyway (bad u q r) h = not_clean
anyway (fail e q r) h = not_started h
anyway (stop n) h = no_start

if_ok : {ts : List ℕ} {b : Bool} {x y : Unit {0} → Res (Unit {0})} → ((u : Unit {0}) → b ≡ true → StartOk ts (x u)) → ((u : Unit {0}) → b ≡ false → StartOk ts (y u)) → StartOk ts (ifb b x y)
unfolding ifb
if_ok {b = true} f g = f tt refl
if_ok {b = false} f g = g tt refl

unclean_ok : {ts : List ℕ} (q : List Error) {d : Res (Unit {0})} → StartOk ts d → StartOk ts (unclean q d)
unfolding unclean
unclean_ok q (started h) = not_clean
unclean_ok q not_clean = not_clean
unclean_ok q (not_started h) = not_started h
unclean_ok q no_start = no_start

either_ok : {ts : List ℕ} (q : List Error) {d : Res Token} {go : Token → List Error → List ℕ → Res (Unit {0})} (or : Error → List Error → List ℕ → Res (Unit {0}))
    → Yields (Saw ts) (λ e r. NotClose ts) d → ((tok : Token) (q : List Error) (r : List ℕ) → Saw ts tok r → StartOk ts (go tok q r)) → StartOk ts (either q d go or)
unfolding either
either_ok q or (k_ok s) h = h _ _ _ s
either_ok q or (k_bad s) h = unclean_ok _ (h _ _ _ s)
either_ok q or (k_fail c) h = anyway _ c
either_ok q or k_stop h = no_start

start_ok : (n : ℕ) (q : List Error) (ts : List ℕ) → length ts ≤ n → StartOk ts (start n q ts)
unfolding start
start_ok zero q [] h = not_started refl
start_ok zero q (w ∷ ts) h = absurd (omega arith)
start_ok (suc n) q ts h =
    either_ok q _ (look_sees q ts) λ tok q₁ rest s.
    if_ok (λ _ e. anyway _ (isnt s Kind.EOF Kind.CloseParen e refl)) λ _ _.
    if_ok (λ _ e. anyway _ (isnt s Kind.Semicolon Kind.CloseParen e refl)) λ _ _.
    started (λ c. c)

-- a clean statement, and what may stand behind it
data NextOk (ts : List ℕ) : Res Tree → Type 0 where
  a_stmt : {t : Tree} {r : List ℕ} → (NotClose r → Valid stmt t) → NotClose ts → NextOk ts (ok t r)
  with_errors : {t : Tree} {q : List Error} {r : List ℕ} → NextOk ts (bad t q r)
  no_stmt : {e : Error} {q : List Error} {r : List ℕ} → (e ≡ 0 → NotClose ts) → NextOk ts (fail e q r)
  stopped : {n : ℕ} → NextOk ts (stop n)

-- what `start` left at r is a statement from ts on
record Began (ts : List ℕ) (t : Tree) (r : List ℕ) : Type 0 where
  valid : NotClose r → Valid stmt t
  start_at : NotClose ts

start_post : (q : List Error) (ts : List ℕ) → Post (λ u r. NotClose r → NotClose ts) (start (length ts) q ts)
start_post q ts = go (start (length ts) q ts) (start_ok (length ts) q ts (omega arith))
  where
    go : (d : Res (Unit {0})) → StartOk ts d → Post (λ u r. NotClose r → NotClose ts) d
    go (ok u r) (started h) = p_ok h
    go (bad u q r) not_clean = p_bad
    go (fail e q r) (not_started h) = p_fail
    go (stop n) no_start = p_stop

next_post : (d : ℕ) (q : List Error) (ts : List ℕ) → Post (Began ts) (next d q ts)
unfolding next
next_post d q ts =
    post_then q (start_post q ts) λ u q₁ r h.
    post_either q₁ _ (stmt_sound (at_depth d) (depth_sound d) q₁ r) λ t q₂ s x. p_ok (record { valid = x.valid; start_at = h x.start })

next_ok : (d : ℕ) (ts : List ℕ) → NextOk ts (next d [] ts)
next_ok d ts = go (next d [] ts) refl (next_post d [] ts)
  where
    ended : {q r : List ℕ} → start (length ts) [] ts ≡ fail 0 q r → NotClose ts
    ended {q} {r} e = last (subst (StartOk ts) e (start_ok (length ts) [] ts (omega arith)))
      where
        last : StartOk ts (fail 0 q r) → NotClose ts
        last (not_started h) = h

    go : (x : Res Tree) → next d [] ts ≡ x → Post (Began ts) x → NextOk ts x
    go (ok t r) e (p_ok h) = a_stmt h.valid h.start_at
    go (bad t q r) e h = with_errors
    go (fail n q r) e h = no_stmt (λ z. ended (next_end d ts (e ∙ ap (λ m. fail m q r) z)))
    go (stop n) e h = stopped

-- the statements of a clean reading
record CleanOk (ts : List ℕ) (f : Forest) : Type 0 where
  valid : Valids stmt f
  first : NotClose ts

-- the statement before a clean reading
joined : {ts r : List ℕ} {t : Tree} (m : Option Forest) (f : Forest) → (NotClose r → Valid stmt t) → NotClose ts → ((g : Forest) → m ≡ Some g → CleanOk r g) → option_and_then (λ g. Some (more t g)) m ≡ Some f → CleanOk ts f
joined None f h c ih e = absurd (let z : ◌≡◌ {A = ℕ} 0 1 = cc in omega arith)
joined {ts = ts} {t = t} (Some g) f h c ih e =
    let x = ih g refl in
    let y : more t g ≡ f = cc in
    subst (CleanOk ts) y (record { valid = v_more (h x.first) x.valid; first = c })

at_end : {ts : List ℕ} (b : Bool) (f : Forest) → (b ≡ true → NotClose ts) → cond b (Some none) None ≡ Some f → CleanOk ts f
at_end {ts} true f h e = let y : none ≡ f = cc in subst (CleanOk ts) y (record { valid = v_none; first = h refl })
at_end false f h e = absurd (let z : ◌≡◌ {A = ℕ} 0 1 = cc in omega arith)

clean_from_sound : (d n : ℕ) (ts : List ℕ) (f : Forest) → clean_from d n ts ≡ Some f → CleanOk ts f
unfolding clean_from
clean_from_sound d zero ts f e = absurd (let z : ◌≡◌ {A = ℕ} 0 1 = cc in omega arith)
clean_from_sound d (suc n) ts f e = go (clean_from_sound d n) (next d [] ts) (next_ok d ts) e
  where
    go : ((r : List ℕ) (g : Forest) → clean_from d n r ≡ Some g → CleanOk r g) → (x : Res Tree) → NextOk ts x → clean_then x (λ r. clean_from d n r) ≡ Some f → CleanOk ts f
    go ih (ok t r) (a_stmt h c) e = joined (clean_from d n r) f h c (ih r) e
    go ih (bad t q r) with_errors e = absurd (let z : ◌≡◌ {A = ℕ} 0 1 = cc in omega arith)
    go ih (fail m q r) (no_stmt h) e = at_end (eqb m 0) f (λ z. h (eqb-true m 0 z)) e
    go ih (stop m) stopped e = absurd (let z : ◌≡◌ {A = ℕ} 0 1 = cc in omega arith)

pub clean_sound : (d : ℕ) (ts : List ℕ) (f : Forest) → clean_reading d ts ≡ Some f → Valids stmt f
unfolding clean_reading ifb
clean_sound d ts f e = go (eqb (length ts % 2) 0) e
  where
    go : (b : Bool) → ifb b (λ _. clean_from d (suc (length ts)) ts) (λ _. None) ≡ Some f → Valids stmt f
    go true e = (clean_from_sound d (suc (length ts)) ts f e).valid
    go false e = absurd (let z : ◌≡◌ {A = ℕ} 0 1 = cc in omega arith)
