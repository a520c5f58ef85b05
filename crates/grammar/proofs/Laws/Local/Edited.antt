-- The calls on an edited sheet. Those that looked at no token from the edit on stay; the first other one started where nothing waited, not behind the edit, and the edited
-- sheet is read again from there: `stays`. So the calls that stay and those that are read again are the calls of the edited sheet. Assumes nothing.
use Rattle.std.specs.Prelude.{◌≡◌, refl, true, false, List, [], ◌∷◌, ◌++◌, ℕ, ◌≤◌, ◌<◌, leb, length, replicate, Option, Some, None}
use Rattle.std.proofs.Common.{ap, sym, ◌∙◌, subst, arith, leb-true, leb-false}
use Rattle.grammar.specs.Reading.Limit.{queue_limit}
use Rattle.grammar.specs.Reading.Result.{ifb}
use Rattle.grammar.specs.Reading.Next.{pad, reader_at, fresh, Accepted, Called, next_stmt}
use Rattle.grammar.specs.Reading.Looked.{call_looks}
use Rattle.grammar.specs.Reading.Kept.{KeptCall, keep, goes_on, Calls, last_call, then_call, stay, restart, Changed}
use Rattle.grammar.specs.declared.Reader.{Reader}
use Rattle.grammar.proofs.Promise.{Sheet, Going, Outcome, no_sheet, no_reader, stopped, waited, short, reads, looked_at, outcome, sole, sole_looks}
use Rattle.grammar.proofs.Laws.Facts.{clash, by_test}
use Rattle.grammar.proofs.Laws.Returned.{zeros_are, fresh_accepted, returned_accepted, returned_whole}
use Rattle.grammar.proofs.Laws.Local.Calls.{call_kept, near}

-- a reader that holds a position only: nothing waits, and no stop
abbrev OnlyPosition : Reader → Type 0
OnlyPosition R = R ≡ reader_at R.position []

only_position : {T : List ℕ} {R : Reader} → length R.errors ≡ queue_limit → Going T R → R.waiting ≡ 0 → OnlyPosition R
only_position {T} {R} full g w =
    let z : R.errors ≡ pad [] = zeros_are R.errors (rw w at g.accepted.queue) ∙ ap (λ n. replicate n 0) full in
    λ i. record { position = R.position; waiting = w i; errors = z i; stopped = g.going i }

-- a reader that calls on the sheet T return, or the first one's, not behind the first a tokens
record Placed (a : ℕ) (T : List ℕ) (R : Reader) : Type 0 where
  accepted : Accepted T R
  full : length R.errors ≡ queue_limit
  before : R.position ≤ a
  first : (Sheet T → ⊥) → OnlyPosition R

fresh_placed : (a : ℕ) (T : List ℕ) → Placed a T fresh
fresh_placed a T = record { accepted = fresh_accepted T; full = refl; before = omega arith; first = λ n. refl }

-- a call that looks at a token has nothing waiting
looking_only : {a : ℕ} {T : List ℕ} {R : Reader} (m : ℕ) → Placed a T R → 0 < call_looks R T m → OnlyPosition R
looking_only {a} {T} {R} m P l = let o = outcome R T m in go o (rw (sole_looks R T m o).1 at l)
  where
    go : {c : Called} (o : Outcome R T m c) → 0 < looked_at o → OnlyPosition R
    go (no_sheet n) l = P.first n
    go (no_reader s n) l = absurd (omega arith)
    go (stopped s x i) l = absurd (omega arith)
    go (waited g h) l = absurd (omega arith)
    go (short g w i) l = only_position P.full g w
    go (reads g w i) l = only_position P.full g w

next_placed : {a : ℕ} {T : List ℕ} {R : Reader} (m : ℕ) → Placed a T R → call_looks R T m ≤ a → goes_on (next_stmt R T m).step.answer ≡ true → Placed a T (next_stmt R T m).step.reader
next_placed {a} {T} {R} m P l g =
    record {
      accepted = returned_accepted R T m P.accepted;
      full = returned_whole R T m P.accepted P.full;
      before = omega (arith, near R T m g, P.before);
      first = λ n. clash (rw (sole R T m (no_sheet n)) at g) refl;
    }

-- the calls on the edited sheet T that stay, and where it is read again
pub data Stays (T : List ℕ) (m a : ℕ) : Reader → List KeptCall → Option ℕ → Type 0 where
  again : {R : Reader} → OnlyPosition R → R.position ≤ a → Stays T m a R [] (Some R.position)
  all_stay : {R : Reader} → goes_on (next_stmt R T m).step.answer ≡ false → Stays T m a R (keep T m R ∷ []) None
  one_stays : {R : Reader} {ks : List KeptCall} {p : Option ℕ} → goes_on (next_stmt R T m).step.answer ≡ true → Stays T m a (next_stmt R T m).step.reader ks p → Stays T m a R (keep T m R ∷ ks) p

module _ {a m : ℕ} {h X : List ℕ} (Z : List ℕ) (c : Changed a h X m) where
  restarts : {R : Reader} → Placed a (h ++ Z) R → leb (call_looks R (h ++ Z) m) a ≡ false → Stays (h ++ X) m a R [] (Some R.position)
  restarts P t = again (looking_only m P (omega (arith, leb-false))) P.before

  same_call : {R : Reader} → Placed a (h ++ Z) R → leb (call_looks R (h ++ Z) m) a ≡ true → (next_stmt R (h ++ Z) m ≡ next_stmt R (h ++ X) m) × (keep (h ++ Z) m R ≡ keep (h ++ X) m R)
  same_call {R} P t = let (e, l) = call_kept R Z c P.before (omega (arith, leb-true)) in (sym e, λ i. record { start = R.position; looked = sym l i; left = sym e i })

  stays_from : {R : Reader} {ks : List KeptCall} → Placed a (h ++ Z) R → Calls (h ++ Z) m R ks → Stays (h ++ X) m a R (stay a ks) (restart a ks)
  unfolding stay restart ifb
  stays_from {R} P (last_call g) =
      by_test (leb (call_looks R (h ++ Z) m) a)
      (λ t. let (e, k) = same_call P t in rw (t, k) (all_stay (rw e at g)))
      (λ t. rw t (restarts P t))
  stays_from {R} P (then_call g r) =
      by_test (leb (call_looks R (h ++ Z) m) a)
      (λ t. let (e, k) = same_call P t in rw (t, k) (one_stays (rw e at g) (rw e at (stays_from (next_placed m P (omega (arith, leb-true)) g) r))))
      (λ t. rw t (restarts P t))

  pub stays : {ks : List KeptCall} → Calls (h ++ Z) m fresh ks → Stays (h ++ X) m a fresh (stay a ks) (restart a ks)
  stays r = stays_from (fresh_placed a (h ++ Z)) r

-- what follows for the calls on the edited sheet

module _ {T : List ℕ} {m a : ℕ} where
  pub read_again : {R : Reader} {ks fs : List KeptCall} {p : ℕ} → Stays T m a R ks (Some p) → Calls T m (reader_at p []) fs → Calls T m R (ks ++ fs)
  read_again {fs = fs} (again e l) r = subst (λ R. Calls T m R fs) (sym e) r
  read_again (one_stays g s) r = then_call g (read_again s r)

  pub none_again : {R : Reader} {ks : List KeptCall} → Stays T m a R ks None → Calls T m R ks
  none_again (all_stay g) = last_call g
  none_again (one_stays g s) = then_call g (none_again s)

  pub again_before : {R : Reader} {ks : List KeptCall} {p : ℕ} → Stays T m a R ks (Some p) → p ≤ a
  again_before (again e l) = l
  again_before (one_stays g s) = again_before s

  pub begins_with : {R : Reader} {ks js : List KeptCall} {p : Option ℕ} → Stays T m a R ks p → Calls T m R js → (fs : List KeptCall) × (js ≡ ks ++ fs)
  begins_with {js = js} (again e l) r = (js, refl)
  begins_with (all_stay g) (last_call k) = ([], refl)
  begins_with (all_stay g) (then_call k r) = clash k g
  begins_with (one_stays g s) (last_call k) = clash g k
  begins_with {R = R} (one_stays g s) (then_call k r) = let (fs, e) = begins_with s r in (fs, ap (λ ks. keep T m R ∷ ks) e)

-- where none looked at the edit or past it, all stay
pub stay_all : (a : ℕ) (ks : List KeptCall) → restart a ks ≡ None → stay a ks ≡ ks
unfolding stay restart ifb
stay_all a [] n = refl
stay_all a (k ∷ ks) n =
    by_test (leb k.looked a)
    (λ t. rw t (ap (λ ks. k ∷ ks) (stay_all a ks (rw t at n))))
    (λ t. let x : Some k.start ≡ None = rw t at n in absurd (let z : ◌≡◌ {A = ℕ} 0 1 = cc in omega arith))
